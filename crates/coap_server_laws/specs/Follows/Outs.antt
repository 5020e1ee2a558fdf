-- What a server gives out is what it sent, in the order of sending (RFC 7252, section 4.2).
use Rattle.std.specs.Prelude.{◌≡◌, ℕ, Option, List, slice_get}
use Rattle.coap_types.specs.Past.{Always}
use Rattle.coap_layer.specs.Trace as L
use Rattle.coap_layer.specs.Words.{waiting}
use Rattle.coap_layer.specs.declared.setup.Setup.{Setup}
use Rattle.coap_resource.specs.Limits.{Limits}
use Rattle.coap_server.specs.Trace.{Call, NextOut}
use Rattle.coap_server.specs.Law.{layer_of}

-- It gives the first of the datagrams that were sent and not yet taken.
abbrev pub GivesInOrder : Limits → ℕ → Setup → List Call → Type 0
GivesInOrder limits szx setup t = Always (λ past c. (answer : Option L.Packet) → c ≡ NextOut answer
    → answer ≡ slice_get (waiting (layer_of limits szx setup past)) 0) t
