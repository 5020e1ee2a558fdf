-- The client of a run by two clocks: it observes, takes a notification, and gets what it was told (RFC 7252, section
-- 5.2.1; RFC 7641, section 3.2).
use Rattle.std.proofs.Common.{true, false, Some, List, [], ◌∷◌, ◌++◌, Ok, refl}
use Rattle.std.specs.Prelude.{codes}
use Rattle.coap_types.specs.declared.message.Kind.TheVariants.{Ack}
use Rattle.coap_codec.specs.Message.{Message}
use Rattle.coap_layer.specs.Machine.State.{usual}
use Rattle.coap_layer.specs.Trace as L
use Rattle.coap_exchange.specs.declared.asker.Event.TheVariants as event
use Rattle.coap_client.specs.Trace as C
use Rattle.coap_client.specs.Law.{ClientLaw}
use Rattle.coap_promise.specs.ClockRuns.{content_bytes, get_bytes}
use Rattle.coap_record.specs.Events.{server_end}
use Rattle.coap_promise.specs.LateRuns.{key}
use Rattle.coap_promise.specs.LegalRuns.{sizes, tag, plain, get, empty_ack}
use Rattle.coap_promise.specs.ObservationRuns.{observe_bytes}
use Rattle.coap_promise.proofs.Facts.Witness.Observed.Client.{value, observing, ticked, registered, notified}
use Rattle.coap_promise.proofs.Facts.Witness.TurnsMade.{client_turn, to_server, asks, rests}
use Rattle.coap_promise.proofs.Facts.Witness.Tests.{messages, client_lawful}

-- the response
abbrev pub content : Message
content = record {
  kind = Ack;
  code = 69;
  id = 1;
  token = key 1;
  options = record { number = 4; value = tag 2 } ∷ record { number = 12; value = [] } ∷ [];
  payload = codes "b";
}

abbrev pub got : C.Reported
got = record { number = 1; report = C.Body (Some (tag 2)) (Some plain) (codes "b") }

-- the calls of each turn from the second request on, the newest first

abbrev pub called : List C.Call
called = C.Calls 6 get (Ok 1) ∷ []

abbrev pub begins : List C.Call
begins = rests 6 ∷ asks 6 1 (key 1) ∷ []

abbrev pub hears : C.Call
hears = C.Feeds 8 server_end content_bytes 0 (L.Becomes (L.Response content)) true
    (Some (event.Answer content)) L.Nothing (Ok []) false

abbrev calls_before : List C.Call
calls_before = client_turn (value 2 (codes "b") ∷ []) (to_server empty_ack ∷ []) notified
    ++ (client_turn (value 1 (codes "a") ∷ []) [] registered
    ++ (client_turn [] (to_server observe_bytes ∷ []) ticked ++ client_turn [] [] observing))

abbrev pub calls : List C.Call
calls = client_turn (got ∷ []) [] (hears ∷ [])
    ++ (client_turn [] (to_server get_bytes ∷ []) begins ++ (client_turn [] [] called ++ calls_before))

pub lawful : ClientLaw server_end sizes (usual 0) calls
unfolding messages
lawful = client_lawful sizes calls (assumption) (assumption) refl
