-- The client of a legal run: it gets a representation (RFC 7252, sections 4.2 and 5.2.1).
use Rattle.std.proofs.Common.{true, false, Some, List, [], ◌∷◌, ◌++◌, Ok, refl}
use Rattle.std.specs.Prelude.{codes}
use Rattle.coap_types.specs.declared.message.Kind.TheVariants.{Ack}
use Rattle.coap_codec.specs.Message.{Message}
use Rattle.coap_layer.specs.Trace as L
use Rattle.coap_exchange.specs.declared.asker.Event.TheVariants as event
use Rattle.coap_client.specs.Trace as C
use Rattle.coap_client.specs.Law.{ClientLaw}
use Rattle.coap_promise.specs.LegalRuns.{sizes, token, tag, plain, get, get_bytes, content_bytes}
use Rattle.coap_record.specs.Events.{server_end}
use Rattle.coap_layer.specs.Machine.State.{usual}
use Rattle.coap_promise.proofs.Facts.Witness.TurnsMade.{client_turn, to_server, asks, rests}
use Rattle.coap_promise.proofs.Facts.Witness.Tests.{messages, client_lawful}

-- the response
abbrev pub content : Message
content = record {
  kind = Ack;
  code = 69;
  id = 0;
  token = token;
  options = record { number = 4; value = tag 1 } ∷ record { number = 12; value = [] } ∷ [];
  payload = codes "hi";
}

abbrev pub got : C.Reported
got = record { number = 0; report = C.Body (Some (tag 1)) (Some plain) (codes "hi") }

-- the calls of each turn, the newest first

abbrev pub called : List C.Call
called = C.Calls 0 get (Ok 0) ∷ []

abbrev pub ticked : List C.Call
ticked = rests 0 ∷ asks 0 0 token ∷ []

abbrev pub hears : C.Call
hears = C.Feeds 9 server_end content_bytes 0 (L.Becomes (L.Response content)) true
    (Some (event.Answer content)) L.Nothing (Ok []) false

abbrev pub calls : List C.Call
calls = client_turn (got ∷ []) [] (hears ∷ [])
    ++ (client_turn [] (to_server get_bytes ∷ []) ticked ++ client_turn [] [] called)

pub lawful : ClientLaw server_end sizes (usual 0) calls
unfolding messages
lawful = client_lawful sizes calls (assumption) (assumption) refl

-- .. where no response comes

abbrev pub calls_before : List C.Call
calls_before = client_turn [] (to_server get_bytes ∷ []) ticked ++ client_turn [] [] called

pub lawful_before : ClientLaw server_end sizes (usual 0) calls_before
unfolding messages
lawful_before = client_lawful sizes calls_before (assumption) (assumption) refl
