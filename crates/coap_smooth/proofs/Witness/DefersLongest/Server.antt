-- The server of the smooth run in which an exchange is open longest: a request is ready 10,000 ms after it came, 1 ms
-- after a tick, and is answered by the next one (RFC 7252, section 5.2.2).
use Rattle.std.proofs.Common.{ℕ, true, Some, List, [], ◌∷◌, ◌++◌, refl}
use Rattle.coap_layer.specs.Machine.State.{usual}
use Rattle.coap_layer.specs.Trace as L
use Rattle.coap_server.specs.Trace as S
use Rattle.coap_server.specs.Law.{ServerLaw}
use Rattle.coap_exchange.specs.declared.answerer.Due.TheVariants as due
use Rattle.coap_record.specs.Events.{client_end}
use Rattle.coap_promise.specs.LegalRuns.{limits, t, get_bytes, empty_ack, separate_bytes}
use Rattle.coap_promise.proofs.Facts.Witness.Defers.Server.{asked}
use Rattle.coap_promise.proofs.Facts.Witness.Gets.Server.{request, stored, question, reply, sets, served, stores}
use Rattle.coap_promise.proofs.Facts.Witness.TurnsMade.{server_turn, to_client, idle}
use Rattle.coap_promise.proofs.Facts.Witness.Tests.{messages, server_lawful}

-- the calls till each second, the newest first

abbrev pub waits : List S.Call
waits = S.Feeds 1000 client_end get_bytes 0 (L.Becomes (L.Request request true)) (Some (asked, request))
    (S.Waits question 10000) L.Nothing ∷ []

abbrev pub ticked : List S.Call
ticked = idle 11999 ∷ S.Ticks 11999 0 L.Idle true (due.Ready asked) 0 (S.Serves question reply stored) 0 true ∷ []

-- ticks that do nothing
abbrev idles : List ℕ → List S.Call → List S.Call
idles [] past = past
idles (at ∷ ats) past = server_turn [] (idle at ∷ []) ++ idles ats past

abbrev calls_0 : List S.Call
calls_0 = server_turn [] (sets ∷ []) ++ S.Delays t 10000 true ∷ []

abbrev calls_1 : List S.Call
calls_1 = server_turn (to_client empty_ack ∷ []) waits ++ (server_turn [] (idle 999 ∷ []) ++ calls_0)

abbrev calls_11 : List S.Call
calls_11 = idles (10999 ∷ 9999 ∷ 8999 ∷ 7999 ∷ 6999 ∷ 5999 ∷ 4999 ∷ 3999 ∷ 2999 ∷ 1999 ∷ []) calls_1

abbrev pub calls : List S.Call
calls = server_turn (to_client separate_bytes ∷ []) ticked ++ calls_11

pub lawful : ServerLaw limits 6 (usual 0) calls
unfolding messages
lawful = server_lawful limits 6 calls (assumption (served 11999, stores)) refl refl
