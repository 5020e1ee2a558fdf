-- The first client of a run of two: its PUT is done (RFC 7252, sections 4.2 and 5.2.1).
use Rattle.std.proofs.Common.{List, [], ◌∷◌, ◌++◌, Ok, refl}
use Rattle.coap_types.specs.declared.message.Kind.TheVariants.{Ack}
use Rattle.coap_exchange.specs.SuccessCodes.{changed}
use Rattle.coap_layer.specs.Machine.State.{usual}
use Rattle.coap_client.specs.Trace as C
use Rattle.coap_client.specs.Law.{ClientLaw}
use Rattle.coap_record.specs.Events.{server_end}
use Rattle.coap_promise.specs.LegalRuns.{sizes, token, changed_bytes}
use Rattle.coap_smooth.specs.SmoothRuns.{put, put_bytes}
use Rattle.coap_promise.proofs.Facts.Witness.LateTurns.{ends}
use Rattle.coap_promise.proofs.Facts.Witness.TurnsMade.{client_turn, to_server, asks, rests}
use Rattle.coap_promise.proofs.Facts.Witness.Tests.{messages, client_lawful}
use Rattle.coap_many.specs.ManyRuns.{told}

abbrev pub done : C.Reported
done = told 0 (C.Done changed)

-- the calls of each turn, the newest first

abbrev pub called : List C.Call
called = C.Calls 0 put (Ok 0) ∷ []

abbrev pub ticked : List C.Call
ticked = rests 0 ∷ asks 0 0 token ∷ []

abbrev pub hears : C.Call
hears = ends 9 changed_bytes (record { kind = Ack; code = 68; id = 0; token = token; options = []; payload = [] })

abbrev calls : List C.Call
calls = client_turn (done ∷ []) [] (hears ∷ [])
    ++ (client_turn [] (to_server put_bytes ∷ []) ticked ++ client_turn [] [] called)

pub lawful : ClientLaw server_end sizes (usual 0) calls
unfolding messages
lawful = client_lawful sizes calls (assumption) (assumption) refl
