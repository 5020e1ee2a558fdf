-- The server of a run in which its notification is lost (RFC 7641, section 4.5).
use Rattle.std.proofs.Common.{List, [], ◌∷◌, ◌++◌, refl}
use Rattle.coap_layer.specs.Machine.State.{usual}
use Rattle.coap_server.specs.Trace as S
use Rattle.coap_server.specs.Law.{ServerLaw}
use Rattle.coap_promise.specs.LegalRuns.{limits}
use Rattle.coap_promise.specs.ObservationRuns.{first_bytes, second_bytes}
use Rattle.coap_promise.proofs.Facts.Witness.Observed.Server.{first_set, fed, second_set, ticked, served, first_change}
use Rattle.coap_promise.proofs.Facts.Witness.Observed.Server.{second}
use Rattle.coap_promise.proofs.Facts.Witness.TurnsMade.{server_turn, to_client}
use Rattle.coap_promise.proofs.Facts.Witness.Tests.{messages, server_lawful}

abbrev pub calls : List S.Call
calls = server_turn (to_client second_bytes ∷ []) ticked ++ (server_turn [] second_set ++
    (server_turn (to_client first_bytes ∷ []) fed ++ (server_turn [] first_set)))

pub lawful : ServerLaw limits 6 (usual 0) calls
unfolding messages
lawful = server_lawful limits 6 calls (assumption (served, first_change, second)) refl refl
