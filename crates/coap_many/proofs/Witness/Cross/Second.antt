-- The second client of a run of two: its PUT is answered (RFC 7252, sections 4.2 and 5.2.1).
use Rattle.std.proofs.Common.{◌+◌, true, false, Some, List, [], ◌∷◌, ◌++◌, Ok, refl}
use Rattle.coap_types.specs.declared.message.Kind.TheVariants.{Ack}
use Rattle.coap_codec.specs.Message.{Message}
use Rattle.coap_exchange.specs.SuccessCodes.{changed}
use Rattle.coap_layer.specs.Machine.State.{usual}
use Rattle.coap_layer.specs.Trace as L
use Rattle.coap_exchange.specs.declared.asker.Event.TheVariants as event
use Rattle.coap_client.specs.Trace as C
use Rattle.coap_client.specs.Law.{ClientLaw}
use Rattle.coap_record.specs.Events.{server_end}
use Rattle.coap_promise.specs.LegalRuns.{sizes, token, changed_bytes}
use Rattle.coap_smooth.specs.SmoothRuns.{put, put_bytes}
use Rattle.coap_promise.proofs.Facts.Witness.TurnsMade.{client_turn, to_server, asks, rests}
use Rattle.coap_promise.proofs.Facts.Witness.Tests.{messages, client_lawful}
use Rattle.coap_many.specs.ManyRuns.{ahead}

-- the response
abbrev pub answer : Message
answer = record { kind = Ack; code = 68; id = 0; token = token; options = []; payload = [] }

abbrev pub done : C.Reported
done = record { number = 0; report = C.Done changed }

-- the calls of each turn, the newest first

abbrev pub called : List C.Call
called = C.Calls ahead put (Ok 0) ∷ []

abbrev pub ticked : List C.Call
ticked = rests ahead ∷ asks ahead 0 token ∷ []

abbrev pub hears : C.Call
hears = C.Feeds (ahead + 9) server_end changed_bytes 0 (L.Becomes (L.Response answer)) true (Some (event.Answer answer))
    L.Nothing
    (Ok []) false

abbrev pub calls : List C.Call
calls = client_turn (done ∷ []) [] (hears ∷ [])
    ++ (client_turn [] (to_server put_bytes ∷ []) ticked ++ client_turn [] [] called)

pub lawful : ClientLaw server_end sizes (usual 0) calls
unfolding messages
lawful = client_lawful sizes calls (assumption) (assumption) refl
