-- The critical options of a message that are not known (RFC 7252, sections 5.4.1 and 5.4.6).
use Rattle.std.specs.Prelude.{ℕ, ◌==◌, ◌&&◌, not, Bool, List, [], ◌∷◌, Option, Some, None, if◌then◌else◌}
use Rattle.std.specs.List.{list_any}
use Rattle.coap_types.specs.CoapOption.{CoapOption}
use Rattle.coap_types.specs.Recognised.{is_critical}

-- the number is one of these
abbrev pub is_known : List ℕ → ℕ → Bool
is_known known number = list_any (λ n. n == number) known

-- the number of the first critical option that is none of these, in the order of the message
abbrev pub first_unknown : List ℕ → List CoapOption → Option ℕ
first_unknown known [] = None
first_unknown known (o ∷ os) =
    if is_critical o && not (is_known known o.number) then Some o.number else first_unknown known os
