-- The second client at the lock, which it is refused (RFC 7252, sections 4.2 and 5.2.1).
use Rattle.std.proofs.Common.{◌+◌, List, [], ◌∷◌, ◌++◌, Ok, refl}
use Rattle.std.specs.Prelude.{codes}
use Rattle.coap_types.specs.declared.message.Kind.TheVariants.{Ack}
use Rattle.coap_types.specs.declared.message.TheConstants.Code.{PRECONDITION_FAILED}
use Rattle.coap_layer.specs.Machine.State.{usual}
use Rattle.coap_client.specs.Trace as C
use Rattle.coap_client.specs.Law.{ClientLaw}
use Rattle.coap_record.specs.Events.{server_end}
use Rattle.coap_promise.specs.LegalRuns.{sizes, token}
use Rattle.coap_promise.proofs.Facts.Witness.LateTurns.{ends}
use Rattle.coap_promise.proofs.Facts.Witness.TurnsMade.{client_turn, to_server, asks, rests}
use Rattle.coap_promise.proofs.Facts.Witness.Tests.{messages, client_lawful}
use Rattle.coap_many.specs.LockRun.{take, take_bytes, refused_bytes}
use Rattle.coap_many.specs.ManyRuns.{ahead, told}

abbrev pub loses : C.Reported
loses = told 0 (C.Failed PRECONDITION_FAILED.0)

-- the calls of each turn, the newest first

abbrev pub takes : List C.Call
takes = C.Calls (ahead + 10) (take (codes "b")) (Ok 0) ∷ []

abbrev pub ticked : List C.Call
ticked = rests (ahead + 10) ∷ asks (ahead + 10) 0 token ∷ []

abbrev pub hears : C.Call
hears = ends (ahead + 19) refused_bytes
    (record { kind = Ack; code = 140; id = 0; token = token; options = []; payload = [] })

abbrev calls : List C.Call
calls = client_turn (loses ∷ []) [] (hears ∷ [])
    ++ (client_turn [] (to_server (take_bytes (codes "b")) ∷ []) ticked ++ client_turn [] [] takes)

pub lawful : ClientLaw server_end sizes (usual 0) calls
unfolding messages
lawful = client_lawful sizes calls (assumption) (assumption) refl
