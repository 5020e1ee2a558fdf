-- The client of a legal run: it observes, and takes two values (RFC 7641, sections 3.1 and 3.2).
use Rattle.std.proofs.Common.{ℕ, true, false, Some, List, [], ◌∷◌, ◌++◌, Ok, refl}
use Rattle.std.specs.Prelude.{codes}
use Rattle.coap_types.specs.declared.message.Kind.TheVariants.{Con, Ack}
use Rattle.coap_codec.specs.Message.{Message}
use Rattle.coap_layer.specs.Trace as L
use Rattle.coap_exchange.specs.declared.asker.Event.TheVariants as event
use Rattle.coap_types.specs.declared.message.Kind.{Kind}
use Rattle.coap_client.specs.Trace as C
use Rattle.coap_client.specs.Law.{ClientLaw}
use Rattle.coap_promise.specs.LegalRuns.{sizes, token, tag, plain, t, reported, empty_ack}
use Rattle.coap_record.specs.Events.{server_end}
use Rattle.coap_layer.specs.Machine.State.{usual}
use Rattle.coap_promise.specs.ObservationRuns.{observe_bytes, first_bytes, second_bytes}
use Rattle.coap_promise.proofs.Facts.Witness.TurnsMade.{client_turn, to_server, asks, rests}
use Rattle.coap_promise.proofs.Facts.Witness.Tests.{messages, client_lawful}

-- the answer and the notification
abbrev pub content : Kind → ℕ → List ℕ → Message
content kind version body = record {
  kind = kind;
  code = 69;
  id = 0;
  token = token;
  options = record { number = 4; value = tag version } ∷ record { number = 6; value = version ∷ [] } ∷ record
      { number = 12; value = [] } ∷ [];
  payload = body;
}

abbrev pub value : ℕ → List ℕ → C.Reported
value version body = reported (C.Value version (Some (tag version)) (Some plain) body)

-- the calls of each turn, the newest first

abbrev pub observing : List C.Call
observing = C.Observes 0 t (Ok 0) ∷ []

abbrev pub ticked : List C.Call
ticked = rests 0 ∷ asks 0 0 token ∷ []

abbrev pub registered : List C.Call
registered = C.Feeds 2 server_end first_bytes 0 (L.Becomes (L.Response (content Ack 1 (codes "a")))) true
    (Some (event.Answer (content Ack 1 (codes "a")))) L.Nothing (Ok []) true ∷ []

abbrev pub notified : List C.Call
notified = C.Feeds 4 server_end second_bytes 0 (L.Becomes (L.Response (content Con 2 (codes "b")))) false
    (Some (event.Notice (content Con 2 (codes "b")))) L.Nothing (Ok []) false ∷ []

abbrev calls_before : List C.Call
calls_before = client_turn (value 1 (codes "a") ∷ []) [] registered
    ++ (client_turn [] (to_server observe_bytes ∷ []) ticked ++ client_turn [] [] observing)

abbrev pub calls : List C.Call
calls = client_turn (value 2 (codes "b") ∷ []) (to_server empty_ack ∷ []) notified ++ calls_before

pub lawful : ClientLaw server_end sizes (usual 0) calls
unfolding messages
lawful = client_lawful sizes calls (assumption) (assumption) refl
