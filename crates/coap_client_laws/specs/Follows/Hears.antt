-- Where a client hears its answers (RFC 7252, section 5.3.2).
use Rattle.std.specs.Prelude.{◌≡◌, ℕ, List}
use Rattle.coap_types.specs.declared.endpoint.Endpoint.{Endpoint}
use Rattle.coap_codec.specs.Message.{Message}
use Rattle.coap_layer.specs.Trace.{Receive, Becomes, Response, Entry}

-- the response arrives from the server, and the message layer hands it up
pub record Hears (server : Endpoint) (m : Message) (e : Entry) : Type 0 where
  pub bytes : List ℕ
  pub call : e.call ≡ Receive server bytes
  pub answer : e.answer ≡ Becomes (Response m)
