-- What a server sends beside Empty messages: responses to the requests that were handed up (RFC 7252, sections 4.2 and
-- 5.2).
use Rattle.std.specs.Prelude.{◌≡◌}
use Rattle.coap_codec.specs.Message.{Message, Spells}
use Rattle.coap_layer.specs.Trace as L

-- neither a request nor a response: code 0.00
abbrev pub IsEmpty : L.Packet → Type 0
IsEmpty p = (m : Message) × Spells p.bytes m × (m.code ≡ 0)
