-- Which options of a message are recognised (RFC 7252, sections 5.4.1, 5.4.3 and 5.4.5).
use Rattle.std.specs.Prelude.{◌≡◌, ℕ, Bool, true, false, not, ◌&&◌, ◌++◌, ◌%◌, ◌==◌, nat_le, List, [], ◌∷◌, length, map}
use Rattle.std.specs.Prelude.{Option, Some, None}
use Rattle.std.specs.List.{filter, list_any}
use Rattle.coap_types.specs.declared.direction.Direction.{Direction}
use Rattle.coap_types.specs.declared.direction.Direction.TheVariants.{Request, Response}
use Rattle.coap_types.specs.declared.option_rule.Rule.{Rule}
use Rattle.coap_types.specs.declared.option_rule.Occurrence.{Occurrence}
use Rattle.coap_types.specs.declared.option_rule.Occurrence.TheVariants.{Never, Once, Repeatable}
use Rattle.coap_types.specs.CoapOption.{CoapOption}
use Rattle.coap_types.specs.OptionTable.{option_rule}
use Rattle.coap_types.specs.OptionValues.{has, value_of}

-- how often an option is recognised in a message of this direction
abbrev pub occurrence : Direction → Rule → Occurrence
occurrence Request rule = rule.in_request
occurrence Response rule = rule.in_response

-- whether one of the options has this number
abbrev pub has_number : ℕ → List CoapOption → Bool
has_number number options = list_any (λ o. o.number == number) options

-- whether an option is expected after these: always where it is repeatable, else where it is the first of its number
abbrev pub is_expected : Occurrence → List CoapOption → ℕ → Bool
is_expected Never before number = false
is_expected Once before number = not (has_number number before)
is_expected Repeatable before number = true

-- whether an option with this rule, if any, is recognised: it is expected, and its value has an allowed length
abbrev pub passes : Option Rule → Direction → List CoapOption → CoapOption → Bool
passes None direction before o = false
passes (Some rule) direction before o =
    is_expected (occurrence direction rule) before o.number
    && nat_le rule.min_len (length o.value)
    && nat_le (length o.value) rule.max_len

-- whether an option is recognised that comes after these
abbrev pub is_recognised : Direction → List CoapOption → CoapOption → Bool
is_recognised direction before o = passes (option_rule o.number) direction before o

-- each option together with all that stand before it
abbrev pub placed : List CoapOption → List CoapOption → List (List CoapOption × CoapOption)
placed before [] = []
placed before (o ∷ os) = (before, o) ∷ placed (before ++ o ∷ []) os

-- a critical option has an odd number
abbrev pub is_critical : CoapOption → Bool
is_critical o = o.number % 2 == 1

-- the options of a message that are recognised, in order
abbrev pub recognised : Direction → List CoapOption → List CoapOption
recognised direction options = map (λ p. p.1) (filter (λ p. is_recognised direction p.0 p.1) (placed [] options))

-- whether a critical option is not recognised
abbrev pub lacks_critical : Direction → List CoapOption → Bool
lacks_critical direction options = list_any (λ p. is_critical p.1 && not (is_recognised direction p.0 p.1))
    (placed [] options)

-- the value of the first option of this number that is recognised
abbrev pub recognised_value : Direction → ℕ → List CoapOption → Option (List ℕ)
recognised_value direction number options = value_of number (recognised direction options)

-- whether an option of this number is recognised
abbrev pub carries : Direction → ℕ → List CoapOption → Bool
carries direction number options = has number (recognised direction options)

-- the options of a message, those that are recognised, and whether a critical one is not
pub record Recognised (direction : Direction) (options kept : List CoapOption) (bad : Bool) : Type 0 where
  pub list : kept ≡ recognised direction options
  pub rest : bad ≡ lacks_critical direction options
