-- The client of a run in which a notification is lost: it observes, and has the first value still (RFC 7641, section
-- 4.5).
use Rattle.std.proofs.Common.{List, [], ◌∷◌, ◌++◌, refl}
use Rattle.std.specs.Prelude.{codes}
use Rattle.coap_layer.specs.Machine.State.{usual}
use Rattle.coap_client.specs.Trace as C
use Rattle.coap_client.specs.Law.{ClientLaw}
use Rattle.coap_record.specs.Events.{server_end}
use Rattle.coap_promise.specs.LegalRuns.{sizes}
use Rattle.coap_promise.specs.ObservationRuns.{observe_bytes}
use Rattle.coap_promise.proofs.Facts.Witness.Observed.Client.{value, observing, ticked, registered}
use Rattle.coap_promise.proofs.Facts.Witness.TurnsMade.{client_turn, to_server, rests}
use Rattle.coap_promise.proofs.Facts.Witness.Tests.{messages, client_lawful}

abbrev pub calls : List C.Call
calls = client_turn [] [] (rests 5003 ∷ []) ++ (client_turn (value 1 (codes "a") ∷ []) [] registered ++
    (client_turn [] (to_server observe_bytes ∷ []) ticked ++ (client_turn [] [] observing)))

pub lawful : ClientLaw server_end sizes (usual 0) calls
unfolding messages
lawful = client_lawful sizes calls (assumption) (assumption) refl
