-- With which status a datagram is shown (RFC 7252, section 3).
use Rattle.std.specs.Prelude.{ℕ, List}
use Rattle.coap_codec.specs.Message.{Message, Spells}
use Rattle.coap_status.specs.declared.status.Status.{Status}
use Rattle.coap_status.specs.declared.status.Status.TheVariants.{Done, Refused, Words, Failed, Memory}

-- done is a datagram that spells a message
abbrev pub IsShown : List ℕ → Status → Type 0
IsShown datagram Done = (message : Message) × Spells datagram message
IsShown datagram Refused = (message : Message) → Spells datagram message → ⊥
IsShown datagram Words = ⊥
IsShown datagram Failed = ⊥
IsShown datagram Memory = ⊥
