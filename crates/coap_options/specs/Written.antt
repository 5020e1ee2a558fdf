-- Options that are written one behind the other, in rising order (RFC 7252, section 3.1).
use Rattle.std.specs.Prelude.{ℕ, List, [], ◌∷◌, ◌++◌}
use Rattle.coap_types.specs.CoapOption.{CoapOption}
use Rattle.coap_codec.specs.Options.{Options}

-- the number of the last one, and this number where there is none
abbrev pub last_number : ℕ → List CoapOption → ℕ
last_number base [] = base
last_number base (o ∷ os) = last_number o.number os

-- Bytes that are one option more, behind those that are these options, are these and that option.
abbrev pub OneMore : Type 0
OneMore =
    (before : List CoapOption) (bytes more : List ℕ) (o : CoapOption) → Options 0 bytes before
    → Options (last_number 0 before) more (o ∷ []) → Options 0 (bytes ++ more) (before ++ o ∷ [])
