-- What a client replies to what it takes (RFC 7252, section 4.2; RFC 7641, sections 3.5 and 3.6).
use Rattle.std.specs.Prelude.{◌≡◌, ◌⊎◌, ℕ, Some, List}
use Rattle.coap_types.specs.Past.{Ever, Always}
use Rattle.coap_types.specs.declared.endpoint.Endpoint.{Endpoint}
use Rattle.coap_types.specs.declared.message.Kind.TheVariants.{Con}
use Rattle.coap_codec.specs.Message.{Message}
use Rattle.coap_layer.specs.EmptyMessages.{ack_bytes}
use Rattle.coap_layer.specs.Trace as L
use Rattle.coap_layer.specs.declared.setup.Setup.{Setup}
use Rattle.coap_block.specs.Sizes.{Sizes}
use Rattle.coap_client.specs.Trace.{Call}
use Rattle.coap_client_laws.specs.Follows.Adds.{call_adds}
use Rattle.coap_client_laws.specs.Follows.Notified.{notes}
use Rattle.coap_client.specs.Sendings.{hears}

-- To what is heard or noted no reply is made but an Empty acknowledgement of it, and that of a CON alone: it is not
-- rejected.
abbrev pub AreAcked : Endpoint → (sizes : Sizes) (setup : Setup) → List Call → Type 0
AreAcked server sizes setup t =
    Always (λ past c. (m : Message) → (hears c ≡ Some m) ⊎ (notes c ≡ Some m) → (to : Endpoint) (id : ℕ)
    (bytes : List ℕ)
    → Ever (λ (e : L.Entry). e.call ≡ L.Reply to id bytes) (call_adds server sizes setup past c)
    → (m.kind ≡ Con) × (bytes ≡ ack_bytes m.id)) t
