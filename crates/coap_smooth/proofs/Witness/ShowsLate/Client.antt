-- The client of a smooth run: it observes, and the last value comes 4,000 ms after the change (RFC 7641, section 3.2).
use Rattle.std.proofs.Common.{ℕ, false, Some, List, [], ◌∷◌, ◌++◌, Ok, refl}
use Rattle.std.specs.Prelude.{codes}
use Rattle.coap_types.specs.declared.message.Kind.TheVariants.{Con}
use Rattle.coap_codec.specs.Message.{Message}
use Rattle.coap_layer.specs.Machine.State.{usual}
use Rattle.coap_layer.specs.Trace as L
use Rattle.coap_exchange.specs.declared.asker.Event.TheVariants as event
use Rattle.coap_client.specs.Trace as C
use Rattle.coap_client.specs.Law.{ClientLaw}
use Rattle.coap_record.specs.Events.{server_end}
use Rattle.coap_promise.specs.LegalRuns.{sizes, empty_ack}
use Rattle.coap_promise.specs.ObservationRuns.{observe_bytes, second_bytes}
use Rattle.coap_smooth.specs.CurrentRuns.{third_bytes, second_ack}
use Rattle.coap_promise.proofs.Facts.Witness.Observed.Client.{content, value, observing, ticked, registered}
use Rattle.coap_promise.proofs.Facts.Witness.TurnsMade.{client_turn, to_server, rests}
use Rattle.coap_promise.proofs.Facts.Witness.Tests.{messages, client_lawful}

-- a notification in a CON that is heard, and the calls of each turn, the newest first

abbrev pub notice : ℕ → ℕ → List ℕ → Message
notice id version body = record (content Con version body) { id = id }

abbrev hears : ℕ → List ℕ → Message → List C.Call
hears at bytes m = C.Feeds at server_end bytes 0 (L.Becomes (L.Response m)) false (Some (event.Notice m)) L.Nothing
    (Ok []) false ∷ []

abbrev pub second : List C.Call
second = hears 1003 second_bytes (notice 0 2 (codes "b"))

abbrev pub third : List C.Call
third = hears 4003 third_bytes (notice 1 3 (codes "c"))

abbrev calls_5 : List C.Call
calls_5 = client_turn (value 2 (codes "b") ∷ []) (to_server empty_ack ∷ []) second ++
    (client_turn [] [] (rests 1000 ∷ []) ++ (client_turn (value 1 (codes "a") ∷ []) [] registered ++
    (client_turn [] (to_server observe_bytes ∷ []) ticked ++ (client_turn [] [] observing))))

abbrev calls_6 : List C.Call
calls_6 = client_turn [] [] (rests 2000 ∷ []) ++ calls_5

abbrev calls_7 : List C.Call
calls_7 = client_turn [] [] (rests 3000 ∷ []) ++ calls_6

abbrev calls_8 : List C.Call
calls_8 = client_turn [] [] (rests 4000 ∷ []) ++ calls_7

abbrev calls_9 : List C.Call
calls_9 = client_turn [] [] (rests 4002 ∷ []) ++ calls_8

abbrev calls_10 : List C.Call
calls_10 = client_turn (value 3 (codes "c") ∷ []) (to_server second_ack ∷ []) third ++ calls_9

abbrev pub calls : List C.Call
calls = client_turn [] [] (rests 5000 ∷ []) ++ calls_10

pub lawful : ClientLaw server_end sizes (usual 0) calls
unfolding messages
lawful = client_lawful sizes calls (assumption) (assumption) refl
