-- The client of a smooth run: it takes a notification in a NON (RFC 7641, section 3.2).
use Rattle.std.proofs.Common.{false, Some, List, [], ◌∷◌, ◌++◌, Ok, refl}
use Rattle.std.specs.Prelude.{codes}
use Rattle.coap_types.specs.declared.message.Kind.TheVariants.{Non}
use Rattle.coap_codec.specs.Message.{Message}
use Rattle.coap_layer.specs.Machine.State.{usual}
use Rattle.coap_layer.specs.Trace as L
use Rattle.coap_exchange.specs.declared.asker.Event.TheVariants as event
use Rattle.coap_client.specs.Trace as C
use Rattle.coap_client.specs.Law.{ClientLaw}
use Rattle.coap_record.specs.Events.{server_end}
use Rattle.coap_promise.specs.LegalRuns.{sizes}
use Rattle.coap_promise.specs.ObservationRuns.{observe_bytes}
use Rattle.coap_smooth.specs.PlainRuns.{plain_bytes}
use Rattle.coap_promise.proofs.Facts.Witness.Observed.Client.{content, value, observing, ticked, registered}
use Rattle.coap_promise.proofs.Facts.Witness.TurnsMade.{client_turn, to_server, rests}
use Rattle.coap_promise.proofs.Facts.Witness.Tests.{messages, client_lawful}

abbrev notice : Message
notice = content Non 2 (codes "b")

abbrev pub notified : C.Call
notified = C.Feeds 1003 server_end plain_bytes 0 (L.Becomes (L.Response notice)) false (Some
    (event.Notice notice)) L.Nothing
    (Ok []) false

abbrev calls_told : List C.Call
calls_told = client_turn (value 2 (codes "b") ∷ []) [] (notified ∷ [])
    ++ (client_turn [] [] (rests 1000 ∷ []) ++ (client_turn (value 1 (codes "a") ∷ []) [] registered
    ++ (client_turn [] (to_server observe_bytes ∷ []) ticked ++ client_turn [] [] observing)))

abbrev pub calls : List C.Call
calls = client_turn [] [] (rests 5000 ∷ []) ++ (client_turn [] [] (rests 4000 ∷ [])
    ++ (client_turn [] [] (rests 3000 ∷ []) ++ (client_turn [] [] (rests 2000 ∷ []) ++ calls_told)))

pub lawful : ClientLaw server_end sizes (usual 0) calls
unfolding messages
lawful = client_lawful sizes calls (assumption) (assumption) refl
