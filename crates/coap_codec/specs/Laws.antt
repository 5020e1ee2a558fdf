-- How messages, spellings and faults go together (RFC 7252, section 3).
use Rattle.std.specs.Prelude.{◌≡◌, ℕ, ◌⊎◌, ◌↔◌, List, Ok, Err}
use Rattle.coap_codec.specs.BoundedSpelling.{CanBeSpelled, IsBare}
use Rattle.coap_codec.specs.Decoded.{decoded}
use Rattle.coap_codec.specs.Faulty.{Faulty}
use Rattle.coap_types.specs.Bytes.{AreBytes}
use Rattle.coap_codec.specs.Message.{Message, Spells}
use Rattle.coap_codec.specs.Spelling.{message_bytes}
use Rattle.coap_codec.specs.declared.fault.Reason.{Reason}

-- All bytes spell a message or are faulty.
abbrev pub EachIsRead : Type 0
EachIsRead = (bytes : List ℕ) → AreBytes bytes
    → ((m : Message) × Spells bytes m) ⊎ ((reason : Reason) × (at : ℕ) × Faulty bytes reason at)

-- No bytes spell a message and are faulty.
abbrev pub NotBoth : Type 0
NotBoth = (bytes : List ℕ) (m : Message) (reason : Reason) (at : ℕ) → AreBytes bytes → Spells bytes m
    → Faulty bytes reason at → ⊥

-- Bytes spell at most one message.
abbrev pub OneMessage : Type 0
OneMessage = (bytes : List ℕ) (m n : Message) → Spells bytes m → Spells bytes n → m ≡ n

-- Bytes are faulty for at most one reason, at one place.
abbrev pub OneFault : Type 0
OneFault = (bytes : List ℕ) (r s : Reason) (a b : ℕ) → AreBytes bytes → Faulty bytes r a → Faulty bytes s b
    → (r ≡ s) × (a ≡ b)

-- What `decoded` gives as their message is what they spell.
abbrev pub MessageIsDecoded : Type 0
MessageIsDecoded = (bytes : List ℕ) (m : Message) → AreBytes bytes → (decoded bytes ≡ Ok m) ↔ Spells bytes m

-- What it gives as their fault is their fault.
abbrev pub FaultIsDecoded : Type 0
FaultIsDecoded = (bytes : List ℕ) (reason : Reason) (at : ℕ) → AreBytes bytes
    → (decoded bytes ≡ Err (reason, at)) ↔ Faulty bytes reason at

-- A message has at most one spelling.
abbrev pub OneSpelling : Type 0
OneSpelling = (m : Message) (a b : List ℕ) → Spells a m → Spells b m → a ≡ b

-- The message that can be spelled, and the bare Empty one, are spelled by their bytes.
abbrev pub SpelledByItsBytes : Type 0
SpelledByItsBytes = (m : Message) → CanBeSpelled m ⊎ IsBare m → Spells (message_bytes m) m

-- No other bytes spell a message.
abbrev pub SpelledByNoOthers : Type 0
SpelledByNoOthers = (bytes : List ℕ) (m : Message) → Spells bytes m → bytes ≡ message_bytes m

-- No other message is spelled.
abbrev pub NoOtherIsSpelled : Type 0
NoOtherIsSpelled = (bytes : List ℕ) (m : Message) → Spells bytes m → CanBeSpelled m ⊎ IsBare m
