-- Why an option is not written (RFC 7252, sections 3.1 and 4.6).
use Rattle.std.specs.Prelude.{◌≤◌, ◌<◌, ◌+◌, ℕ, List, [], ◌∷◌, length}
use Rattle.coap_types.specs.CoapOption.{option}
use Rattle.coap_types.specs.declared.limits.TheConstants.{MAX_MESSAGE_LEN as max_message_len}
use Rattle.coap_codec.specs.Options.{Options}
use Rattle.coap_options.specs.declared.writing.AddRefusal.{AddRefusal}
use Rattle.coap_options.specs.declared.writing.AddRefusal.TheVariants.{Order, TooLong, NoRoom}

-- with it alone behind one of this number a message is longer than any that is sent
abbrev pub IsTooLong : (last number : ℕ) → (value : List ℕ) → Type 0
IsTooLong last number value =
    (bytes : List ℕ) → Options last bytes (option number value ∷ []) → 4 + length bytes ≤ max_message_len → ⊥

-- Its number is below that of the one before it; it is too long; it is longer than what is left of the room behind so
-- many bytes.
abbrev pub IsRefused : AddRefusal → (len last number : ℕ) → (value : List ℕ) → (room : ℕ) → Type 0
IsRefused Order len last number value room = number < last
IsRefused TooLong len last number value room = (last ≤ number) × IsTooLong last number value
IsRefused NoRoom len last number value room = (last ≤ number)
    × ((bytes : List ℕ) → Options last bytes (option number value ∷ []) → room < len + length bytes)
