-- What options carry, and options that carry a value or a number (RFC 7252, sections 3.1 and 3.2).
use Rattle.std.specs.Prelude.{ℕ, Bool, ◌==◌, List, [], ◌∷◌, Option, Some, None, is_some, if◌then◌else◌}
use Rattle.coap_types.specs.CoapOption.{CoapOption, option}
use Rattle.coap_types.specs.Uint.{uint, uint_value}

-- the value of the first option of a number
abbrev pub value_of : ℕ → List CoapOption → Option (List ℕ)
value_of number [] = None
value_of number (o ∷ os) = if o.number == number then Some o.value else value_of number os

-- whether there is an option of a number
abbrev pub has : ℕ → List CoapOption → Bool
has number os = is_some (value_of number os)

-- what a value spells, where there is one of at most four bytes
abbrev pub uint_in : Option (List ℕ) → Option ℕ
uint_in None = None
uint_in (Some value) = uint_value value

-- what the first option of a number spells
abbrev pub uint_at : ℕ → List CoapOption → Option ℕ
uint_at number os = uint_in (value_of number os)

-- the option of a number, where there is a value
abbrev pub option_with : ℕ → Option (List ℕ) → List CoapOption
option_with number None = []
option_with number (Some value) = option number value ∷ []

-- the option of a number that spells another in the fewest bytes, where there is one to be spelt
abbrev pub uint_option : ℕ → Option ℕ → List CoapOption
uint_option number None = []
uint_option number (Some n) = option number (uint n) ∷ []
