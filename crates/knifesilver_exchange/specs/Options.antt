-- What is told of an option, and how one is written (RFC 7252, sections 3.1 and 5.4.1).
use Rattle.std.specs.Prelude.{◌≡◌, ◌<◌, ◌≤◌, ◌⊎◌, ◌+◌, ℕ, ℤ, List, [], ◌∷◌, ◌++◌, length, take, slice_get, Some, None}
use Rattle.coap_types.specs.CoapOption.{CoapOption, option}
use Rattle.coap_codec.specs.Message.{Message, Spells}
use Rattle.coap_codec.specs.Options.{Options}
use Rattle.coap_options.specs.Critical.{first_unknown}
use Rattle.coap_options.specs.Refusals.{IsRefused}
use Rattle.coap_options.specs.declared.writing.AddRefusal.{AddRefusal}
use Rattle.knifesilver_exchange.specs.Numbers.{add_number}
use Rattle.knifesilver_exchange.specs.declared.answers.TheConstants.{BAD_ARGUMENT as bad_argument}

-- the option at that place of what the datagram spells, with its value at the front of the room; and the place behind
-- it
abbrev pub IsNext : List ℕ → (place next number : ℕ) (room : List ℕ) (len : ℕ) → Type 0
IsNext datagram place next number room len = (m : Message) × (o : CoapOption) × Spells datagram m
    × (slice_get m.options place ≡ Some o) × (number ≡ o.number) × (len ≡ length o.value) × (take len room ≡ o.value)
    × (next ≡ place + 1)

-- nothing that is spelled has an option at that place
abbrev pub HasNone : List ℕ → ℕ → Type 0
HasNone datagram place = (m : Message) → Spells datagram m → slice_get m.options place ≡ None

-- the first critical one that is none of these
abbrev pub IsUnknown : List ℕ → List ℕ → ℕ → Type 0
IsUnknown datagram known number =
    (m : Message) × Spells datagram m × (first_unknown known m.options ≡ Some number)

-- the option, behind the first so many bytes of the room
abbrev pub IsAdded : List ℕ → (len last number : ℕ) (value new : List ℕ) (end after : ℕ) → Type 0
IsAdded old len last number value new end after = (end ≤ length new) × (after ≡ number)
    × (more : List ℕ) × (take end new ≡ take len old ++ more) × Options last more (option number value ∷ [])

-- fewer bytes in the room than stand there; or for the reason of the number
abbrev pub RefusesOption : ℤ → (len last number : ℕ) → List ℕ → ℕ → Type 0
RefusesOption answer len last number value room = ((answer ≡ bad_argument) × (room < len))
    ⊎ ((why : AddRefusal) × (answer ≡ add_number why) × IsRefused why len last number value room)
