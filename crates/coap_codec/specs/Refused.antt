-- Messages that have no spelling, or none that fits the room (RFC 7252, sections 3.1 and 4.1).
use Rattle.std.specs.Prelude.{◌≡◌, ℕ, ◌+◌, ◌<◌, ◌≤◌, nat_le, Bool, true, false, ◌&&◌, List, [], ◌∷◌, length, codes}
use Rattle.std.specs.List.{list_all}
use Rattle.coap_types.specs.CoapOption.{CoapOption}
use Rattle.coap_types.specs.declared.message.TheConstants.Code.{EMPTY as empty_code}
use Rattle.coap_codec.specs.Message.{Message, Spells}
use Rattle.coap_codec.specs.declared.nibble.TheConstants.{MAX_EXTENDED as max_extended}
use Rattle.coap_codec.specs.declared.encoder.Refusal.{Refusal}
use Rattle.coap_codec.specs.declared.encoder.Refusal.TheVariants.{NoRoom, OptionOrder, OptionTooLong, EmptyNotBare}

-- how the refusals are counted
abbrev pub refusal_number : Refusal → ℕ
refusal_number NoRoom = 1
refusal_number OptionOrder = 2
refusal_number OptionTooLong = 3
refusal_number EmptyNotBare = 4

-- what they are called in print
abbrev pub refusal_name : Refusal → List ℕ
refusal_name NoRoom = codes "NoRoom"
refusal_name OptionOrder = codes "OptionOrder"
refusal_name OptionTooLong = codes "OptionTooLong"
refusal_name EmptyNotBare = codes "EmptyNotBare"

-- Code 0.00 with a token, an option or a payload: an Empty message has none of them.
abbrev pub IsEmptyNotBare : Message → Type 0
IsEmptyNotBare m = (m.code ≡ empty_code.0) × (0 < length m.token + (length m.options + length m.payload))

-- No option's number is below that of the option before it, nor the first below base: a delta is never negative.
abbrev pub ascends : ℕ → List CoapOption → Bool
ascends base [] = true
ascends base (option ∷ options) = nat_le base option.number && ascends option.number options

-- The value is at most 65,804 bytes long, the longest that an extended length says.
abbrev pub is_short : CoapOption → Bool
is_short option = nat_le (length option.value) max_extended

-- The message is refused for this room. Each case says what the cases before it leave.
abbrev pub Refused : Refusal → Message → ℕ → Type 0
Refused EmptyNotBare m room = IsEmptyNotBare m
Refused OptionOrder m room = (IsEmptyNotBare m → ⊥) × (ascends 0 m.options ≡ false)
Refused OptionTooLong m room = (IsEmptyNotBare m → ⊥) × (ascends 0 m.options ≡ true)
    × (list_all is_short m.options ≡ false)
Refused NoRoom m room = (bytes : List ℕ) × Spells bytes m × (room < length bytes)

-- No spelling of the message fits the room.
abbrev pub HasNoSpelling : Message → ℕ → Type 0
HasNoSpelling m room = (bytes : List ℕ) → Spells bytes m → length bytes ≤ room → ⊥
