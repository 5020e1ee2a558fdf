-- The first moment at which something holds.
use Rattle.std.proofs.Common.{◌≡◌, ◌≤◌, ℕ, Bool, Option, Some, None, sym, ◌∙◌}
use Rattle.coap_types.specs.declared.endpoint.Moment.{Moment}
use Rattle.coap_types.specs.FirstMoment.{IsFirstMoment}

-- what holds at the same moments, from one on, is first at the same
pub same_first : (p q : ℕ → Bool) (from : ℕ) (m : Option Moment) → ((now : ℕ) → from ≤ now → p now ≡ q now)
    → IsFirstMoment p from m → IsFirstMoment q from m
same_first p q from None same h = λ now le less. sym (same now le) ∙ h now le less
same_first p q from (Some at) same h = record {
  from_on = h.from_on;
  does = sym (same at.0 h.from_on) ∙ h.does;
  not_before = λ now le less. sym (same now le) ∙ h.not_before now le less;
}
