-- An option of a message, wherever its value lies in memory (RFC 7252, section 3.1).
use Rattle.std.specs.Prelude.{ℕ, List, map}
use Rattle.coap_types.specs.declared.options.Opt.{Opt}

pub record CoapOption : Type 0 where
  pub number : ℕ
  pub value : List ℕ

-- the option of a number with a value
abbrev pub option : ℕ → List ℕ → CoapOption
option number value = record { number = number; value = value }

abbrev pub option_of : Opt → CoapOption
option_of o = record { number = o.number; value = o.value.now }

abbrev pub options_of : List Opt → List CoapOption
options_of os = map option_of os
