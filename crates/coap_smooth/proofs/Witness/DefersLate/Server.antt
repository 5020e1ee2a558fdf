-- The server of a smooth run: it answers a request later, each datagram comes at its last moment (RFC 7252, section
-- 5.2.2).
use Rattle.std.proofs.Common.{true, Some, None, List, [], ◌∷◌, ◌++◌, refl}
use Rattle.coap_layer.specs.Machine.State.{usual}
use Rattle.coap_layer.specs.Trace as L
use Rattle.coap_server.specs.Trace as S
use Rattle.coap_server.specs.Law.{ServerLaw}
use Rattle.coap_record.specs.Events.{client_end}
use Rattle.coap_exchange.specs.declared.answerer.Due.TheVariants as due
use Rattle.coap_promise.specs.LegalRuns.{limits, t, get_bytes, empty_ack, separate_bytes}
use Rattle.coap_promise.proofs.Facts.Witness.Defers.Server.{asked}
use Rattle.coap_promise.proofs.Facts.Witness.Gets.Server.{request, stored, question, reply, sets, served, stores}
use Rattle.coap_promise.proofs.Facts.Witness.TurnsMade.{server_turn, to_client, idle}
use Rattle.coap_promise.proofs.Facts.Witness.Tests.{messages, server_lawful}

-- the calls of each turn, the newest first

abbrev pub waits : List S.Call
waits = S.Feeds 1000 client_end get_bytes 0 (L.Becomes (L.Request request true)) (Some (asked, request))
    (S.Waits question 1000) L.Nothing ∷ []

abbrev pub ticked : List S.Call
ticked = idle 2000 ∷ S.Ticks 2000 0 L.Idle true (due.Ready asked) 0 (S.Serves question reply stored) 0 true ∷ []

abbrev pub hears : List S.Call
hears = S.Feeds 4000 client_end empty_ack 0 (L.Becomes (L.Acked 0)) None S.Silent L.Nothing ∷ []

abbrev pub calls : List S.Call
calls =
    server_turn [] hears ++
    (server_turn [] (idle 3000 ∷ []) ++ (server_turn (to_client separate_bytes ∷ []) ticked
    ++ (server_turn [] (idle 1000 ∷ []) ++ (server_turn (to_client empty_ack ∷ []) waits
    ++ (server_turn [] (sets ∷ []) ++ S.Delays t 1000 true ∷ [])))))

pub lawful : ServerLaw limits 6 (usual 0) calls
unfolding messages
lawful = server_lawful limits 6 calls (assumption (served 2000, stores)) refl refl
