-- Where a client hears its answers (RFC 7252, section 5.3.2).
use Rattle.std.specs.Prelude.{◌≡◌, Some, List}
use Rattle.coap_types.specs.Past.{Ever, Always}
use Rattle.coap_types.specs.declared.endpoint.Endpoint.{Endpoint}
use Rattle.coap_layer.specs.declared.setup.Setup.{Setup}
use Rattle.coap_codec.specs.Message.{Message}
use Rattle.coap_block.specs.Sizes.{Sizes}
use Rattle.coap_client_laws.specs.Follows.Hears.{Hears}
use Rattle.coap_client.specs.Trace.{Call}
use Rattle.coap_client.specs.Sendings.{hears}
use Rattle.coap_client_laws.specs.Follows.Adds.{call_adds}

-- The response arrives from the server in the entries that this very call adds, and the message layer hands it up.
abbrev pub AreHandedUp : Endpoint → (sizes : Sizes) (setup : Setup) → List Call → Type 0
AreHandedUp server sizes setup t = Always (λ past c. (m : Message) → hears c ≡ Some m
    → Ever (Hears server m) (call_adds server sizes setup past c)) t
