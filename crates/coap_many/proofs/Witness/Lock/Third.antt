-- The third client at the lock: it takes it when the first one has given it back (RFC 7252, sections 4.2 and 5.2.1).
use Rattle.std.proofs.Common.{◌+◌, List, [], ◌∷◌, ◌++◌, Ok, refl}
use Rattle.std.specs.Prelude.{codes}
use Rattle.coap_layer.specs.Machine.State.{usual}
use Rattle.coap_client.specs.Trace as C
use Rattle.coap_client.specs.Law.{ClientLaw}
use Rattle.coap_record.specs.Events.{server_end}
use Rattle.coap_promise.specs.ClockRuns.{created_bytes}
use Rattle.coap_promise.specs.LegalRuns.{sizes, token}
use Rattle.coap_promise.proofs.Facts.Witness.LateTurns.{ends}
use Rattle.coap_promise.proofs.Facts.Witness.TurnsMade.{client_turn, to_server, asks, rests}
use Rattle.coap_promise.proofs.Facts.Witness.Tests.{messages, client_lawful}
use Rattle.coap_many.specs.LockRun.{take, take_bytes}
use Rattle.coap_many.specs.ManyRuns.{far_ahead}
use Rattle.coap_many.proofs.Witness.Lock.First.{made, has_it}

-- the calls of each turn, the newest first

abbrev pub takes : List C.Call
takes = C.Calls (far_ahead + 2030) (take (codes "c")) (Ok 0) ∷ []

abbrev pub ticked : List C.Call
ticked = rests (far_ahead + 2030) ∷ asks (far_ahead + 2030) 0 token ∷ []

abbrev pub hears : C.Call
hears = ends (far_ahead + 2039) created_bytes made

abbrev calls : List C.Call
calls = client_turn (has_it ∷ []) [] (hears ∷ [])
    ++ (client_turn [] (to_server (take_bytes (codes "c")) ∷ []) ticked ++ client_turn [] [] takes)

pub lawful : ClientLaw server_end sizes (usual 0) calls
unfolding messages
lawful = client_lawful sizes calls (assumption) (assumption) refl
