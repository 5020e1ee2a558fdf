-- The server of a smooth run: it tells a change in a NON (RFC 7641, section 4.5).
use Rattle.std.proofs.Common.{true, List, [], ◌∷◌, ◌++◌, refl}
use Rattle.coap_layer.specs.Machine.State.{usual}
use Rattle.coap_server.specs.Law.{ServerLaw}
use Rattle.coap_server.specs.Trace as S
use Rattle.coap_promise.specs.LegalRuns.{limits, t}
use Rattle.coap_promise.specs.ObservationRuns.{first_bytes}
use Rattle.coap_smooth.specs.PlainRuns.{plain_bytes}
use Rattle.coap_promise.proofs.Facts.Witness.Observed.Server.{first_set, fed, second_set, ticked, served, first_change}
use Rattle.coap_promise.proofs.Facts.Witness.Observed.Server.{second}
use Rattle.coap_promise.proofs.Facts.Witness.TurnsMade.{server_turn, to_client, idle}
use Rattle.coap_promise.proofs.Facts.Witness.Tests.{messages, server_lawful}

abbrev calls_told : List S.Call
calls_told = server_turn (to_client plain_bytes ∷ []) ticked ++ (server_turn [] second_set
    ++ (server_turn (to_client first_bytes ∷ []) fed ++ (server_turn [] first_set ++ S.Plains t true ∷ [])))

abbrev pub calls : List S.Call
calls = server_turn [] (idle 5003 ∷ []) ++ (server_turn [] (idle 4003 ∷ []) ++ (server_turn [] (idle 3003 ∷ [])
    ++ (server_turn [] (idle 2003 ∷ []) ++ (server_turn [] (idle 1003 ∷ []) ++ calls_told))))

pub lawful : ServerLaw limits 6 (usual 0) calls
unfolding messages
lawful = server_lawful limits 6 calls (assumption (served, first_change, second)) refl refl
