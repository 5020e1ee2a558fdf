-- Bytes that a message has.
use Rattle.std.specs.Prelude.{ℕ, List}
use Rattle.coap_codec.specs.Message.{Message, Spells}

-- the bytes spell a message
abbrev pub Spelled : List ℕ → Type 0
Spelled bytes = (message : Message) × Spells bytes message
