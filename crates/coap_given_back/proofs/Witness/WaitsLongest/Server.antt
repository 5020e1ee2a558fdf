-- The server of a run in which a response never comes: it acknowledges a request, and does not tick again (RFC 7252,
-- section 5.2.2).
use Rattle.std.proofs.Common.{true, Some, List, [], ◌∷◌, ◌++◌, refl}
use Rattle.coap_layer.specs.Machine.State.{usual}
use Rattle.coap_layer.specs.Trace as L
use Rattle.coap_server.specs.Trace as S
use Rattle.coap_server.specs.Law.{ServerLaw}
use Rattle.coap_record.specs.Events.{client_end}
use Rattle.coap_promise.specs.LegalRuns.{limits, t, get_bytes, empty_ack}
use Rattle.coap_promise.proofs.Facts.Witness.Defers.Server.{asked}
use Rattle.coap_promise.proofs.Facts.Witness.Gets.Server.{request, question, sets, stores}
use Rattle.coap_promise.proofs.Facts.Witness.TurnsMade.{server_turn, to_client}
use Rattle.coap_promise.proofs.Facts.Witness.Tests.{messages, server_lawful}

-- the calls of each turn, the newest first

abbrev pub waits : List S.Call
waits = S.Feeds 31000 client_end get_bytes 0 (L.Becomes (L.Request request true)) (Some (asked, request))
    (S.Waits question 1000) L.Nothing ∷ []

abbrev pub calls : List S.Call
calls = server_turn (to_client empty_ack ∷ []) waits ++ (server_turn [] (sets ∷ []) ++ S.Delays t 1000 true ∷ [])

pub lawful : ServerLaw limits 6 (usual 0) calls
unfolding messages
lawful = server_lawful limits 6 calls (assumption stores) refl refl
