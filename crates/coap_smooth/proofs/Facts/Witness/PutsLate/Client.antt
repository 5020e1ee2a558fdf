-- The client of a smooth run: its PUT is answered by a separate response, each datagram at its last moment (RFC 7252,
-- section 5.2.2).
use Rattle.std.proofs.Common.{false, Some, List, [], ◌∷◌, ◌++◌, Ok, refl}
use Rattle.coap_types.specs.declared.message.Kind.TheVariants.{Con}
use Rattle.coap_codec.specs.Message.{Message}
use Rattle.coap_exchange.specs.SuccessCodes.{changed}
use Rattle.coap_layer.specs.Machine.State.{usual}
use Rattle.coap_layer.specs.Trace as L
use Rattle.coap_exchange.specs.declared.asker.Event.TheVariants as event
use Rattle.coap_client.specs.Trace as C
use Rattle.coap_client.specs.Law.{ClientLaw}
use Rattle.coap_record.specs.Events.{server_end}
use Rattle.coap_promise.specs.LegalRuns.{sizes, token, empty_ack}
use Rattle.coap_smooth.specs.SmoothRuns.{put, put_bytes, separate_changed}
use Rattle.coap_promise.proofs.Facts.Witness.Gets.Client.{ticked}
use Rattle.coap_smooth.proofs.Witness.DefersLate.Client.{awaits}
use Rattle.coap_promise.proofs.Facts.Witness.TurnsMade.{client_turn, to_server, rests}
use Rattle.coap_promise.proofs.Facts.Witness.Tests.{messages, client_lawful}

-- the response
abbrev pub separate : Message
separate = record { kind = Con; code = 68; id = 0; token = token; options = []; payload = [] }

abbrev pub done : C.Reported
done = record { number = 0; report = C.Done changed }

-- the calls of each turn, the newest first

abbrev pub called : List C.Call
called = C.Calls 0 put (Ok 0) ∷ []

abbrev pub hears : List C.Call
hears = C.Feeds 3000 server_end separate_changed 0 (L.Becomes (L.Response separate)) false
    (Some (event.Answer separate)) L.Nothing (Ok []) false ∷ []

abbrev pub calls : List C.Call
calls =
    client_turn [] [] (rests 3000 ∷ []) ++
    (client_turn (done ∷ []) (to_server empty_ack ∷ []) hears
    ++ (client_turn [] [] (rests 2000 ∷ []) ++ (client_turn [] [] awaits ++ (client_turn [] [] (rests 1000 ∷ [])
    ++ (client_turn [] (to_server put_bytes ∷ []) ticked ++ client_turn [] [] called)))))

pub lawful : ClientLaw server_end sizes (usual 0) calls
unfolding messages
lawful = client_lawful sizes calls (assumption) (assumption) refl
