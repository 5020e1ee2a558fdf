-- What is told of the datagram that an end hands out.
use Rattle.std.specs.Prelude.{◌≡◌, ◌<◌, ◌⊎◌, ℕ, ℤ, pos, List, length, take, Option, Some, None}
use Rattle.coap_types.specs.declared.limits.TheConstants.{MAX_MESSAGE_LEN as max_message_len}
use Rattle.coap_layer.specs.Trace.{Packet}
use Rattle.knifesilver_exchange.specs.declared.crossing.KsAddress.{KsAddress}

-- its bytes stand at the front of the room
abbrev pub IsGiven : Packet → (room : List ℕ) (len : ℕ) → Type 0
IsGiven packet room len = (len ≡ length packet.bytes) × (take len room ≡ packet.bytes)

-- none is to be sent, and the answer is 0; or the answer is 1, and it is told where it goes, with its bytes; or the
-- answer is 2, and it has more bytes than a message has at most (RFC 7252, section 4.6; a profile)
abbrev pub OutAnswers : ℤ → KsAddress → (room : List ℕ) (len : ℕ) → Option Packet → Type 0
OutAnswers answer to room len None = answer ≡ pos 0
OutAnswers answer to room len (Some packet) =
    ((answer ≡ pos 1) × (to ≡ record { ip = packet.to.ip; port = packet.to.port }) × IsGiven packet room len)
    ⊎ ((answer ≡ pos 2) × (max_message_len < length packet.bytes))
