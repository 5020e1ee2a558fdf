-- The server of a run with fair loss: the fifth copy of a GET comes, and is served (RFC 7252, section 5.2.1).
use Rattle.std.proofs.Common.{true, Some, List, [], ◌∷◌, ◌++◌, refl}
use Rattle.coap_layer.specs.Machine.State.{usual}
use Rattle.coap_layer.specs.Trace as L
use Rattle.coap_exchange.specs.AnswererSteps.{asked_of}
use Rattle.coap_server.specs.Trace as S
use Rattle.coap_server.specs.Law.{ServerLaw}
use Rattle.coap_record.specs.Events.{client_end}
use Rattle.coap_promise.specs.LegalRuns.{limits, get_bytes, content_bytes}
use Rattle.coap_promise.proofs.Facts.Witness.Gets.Server.{request, stored, question, reply, sets, served, stores}
use Rattle.coap_promise.proofs.Facts.Witness.TurnsMade.{server_turn, to_client}
use Rattle.coap_promise.proofs.Facts.Witness.Tests.{messages, server_lawful}

-- the calls of each turn, the newest first

abbrev pub serves : List S.Call
serves = S.Feeds 31500 client_end get_bytes 0 (L.Becomes (L.Request request true))
    (Some (asked_of client_end request, request)) (S.Serves question reply stored) L.Nothing ∷ []

abbrev pub calls : List S.Call
calls = server_turn (to_client content_bytes ∷ []) serves ++ server_turn [] (sets ∷ [])

pub lawful : ServerLaw limits 6 (usual 0) calls
unfolding messages
lawful = server_lawful limits 6 calls (assumption (served 31500, stores)) refl refl
