-- Bytes spell messages of bytes, and these alone are spelled in bytes (RFC 7252, section 3).
use Rattle.std.specs.Prelude.{ℕ, List, All}
use Rattle.coap_types.specs.Bytes.{AreBytes}
use Rattle.coap_codec.specs.Message.{Message, Spells}

-- its token, the values of its options and its payload are of bytes
pub record IsOfBytes (m : Message) : Type 0 where
  pub token : AreBytes m.token
  pub values : All (λ option. AreBytes option.value) m.options
  pub payload : AreBytes m.payload

-- A message of bytes is spelled in bytes.
abbrev pub SpelledInBytes : Type 0
SpelledInBytes = (bytes : List ℕ) (m : Message) → Spells bytes m → IsOfBytes m → AreBytes bytes

-- What bytes spell is of bytes.
abbrev pub BytesSpellBytes : Type 0
BytesSpellBytes = (bytes : List ℕ) (m : Message) → Spells bytes m → AreBytes bytes → IsOfBytes m
