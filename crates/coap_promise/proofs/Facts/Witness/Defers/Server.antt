-- The server of a legal run: it answers a request later (RFC 7252, section 5.2.2).
use Rattle.std.proofs.Common.{true, false, Some, None, List, [], ◌∷◌, ◌++◌, refl}
use Rattle.coap_layer.specs.Trace as L
use Rattle.coap_exchange.specs.AnswererSteps.{asked_of}
use Rattle.coap_server.specs.Trace as S
use Rattle.coap_server.specs.Law.{ServerLaw}
use Rattle.coap_promise.specs.LegalRuns.{limits, t, get_bytes, empty_ack, separate_bytes}
use Rattle.coap_record.specs.Events.{client_end}
use Rattle.coap_layer.specs.Machine.State.{usual}
use Rattle.coap_exchange.specs.declared.answerer.Asked.{Asked as Request}
use Rattle.coap_exchange.specs.declared.answerer.Due.TheVariants as due
use Rattle.coap_promise.proofs.Facts.Witness.Gets.Server.{request, stored, question, reply, sets, served, stores}
use Rattle.coap_promise.proofs.Facts.Witness.TurnsMade.{server_turn, to_client}
use Rattle.coap_promise.proofs.Facts.Witness.Tests.{messages, server_lawful}

abbrev pub asked : Request
asked = asked_of client_end request

-- the calls of each turn, the newest first

abbrev pub waits : List S.Call
waits = S.Feeds 0 client_end get_bytes 0 (L.Becomes (L.Request request true)) (Some (asked, request))
    (S.Waits question 1000) L.Nothing ∷ []

abbrev pub ticked : List S.Call
ticked =
    S.Ticks 1000 0 L.Idle false due.Idle 0 S.Silent 0 false ∷
    S.Ticks 1000 0 L.Idle true (due.Ready asked) 0 (S.Serves question reply stored) 0 true ∷
    []

abbrev pub hears : List S.Call
hears = S.Feeds 1000 client_end empty_ack 0 (L.Becomes (L.Acked 0)) None S.Silent L.Nothing ∷ []

abbrev pub calls : List S.Call
calls =
    server_turn [] hears ++
    (server_turn (to_client separate_bytes ∷ []) ticked
    ++ (server_turn (to_client empty_ack ∷ []) waits ++ (server_turn [] (sets ∷ []) ++ S.Delays t 1000 true ∷ [])))

pub lawful : ServerLaw limits 6 (usual 0) calls
unfolding messages
lawful = server_lawful limits 6 calls (assumption (served 1000, stores)) refl refl
