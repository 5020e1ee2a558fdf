-- A server rejects responses alone: what it replies to a request is no Reset (RFC 7252, sections 4.2, 4.3 and 5.2).
use Rattle.std.specs.Prelude.{◌≡◌, ℕ, List}
use Rattle.coap_types.specs.Roles.{role_of}
use Rattle.coap_types.specs.declared.endpoint.Endpoint.{Endpoint}
use Rattle.coap_types.specs.declared.message.Kind.TheVariants.{Rst}
use Rattle.coap_types.specs.declared.role.Role.TheVariants.{Response}
use Rattle.coap_layer.specs.Channel.{RepliesAtOnce}
use Rattle.coap_layer.specs.Trace.{Entry, Reply}

-- Each reply that its message layer is given is to the message that was handed up last, at that moment; where it is a
-- Reset, that message is a response.
pub record RejectsResponse (past : List Entry) (at id : ℕ) (bytes : List ℕ) : Type 0 where
  pub at_once : RepliesAtOnce past at id bytes
  pub class : at_once.reply.kind ≡ Rst → role_of at_once.to_what.message.code ≡ Response

abbrev pub RejectsSo : List Entry → Entry → Type 0
RejectsSo past e =
    (to : Endpoint) (id : ℕ) (bytes : List ℕ) → e.call ≡ Reply to id bytes → RejectsResponse past e.at id bytes
