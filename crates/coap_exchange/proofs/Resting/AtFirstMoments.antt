-- What a tick does before and at the first moment at which something is due, of a side whose clock stands there.
use Rattle.std.proofs.Common.{◌≡◌, ℕ, ◌≤◌, ◌<◌, ◌^◌, max, Bool, true, false, Option, Some, None, subst, arith, IfNone}
use Rattle.std.proofs.Common.{IfSome}
use Rattle.coap_types.specs.declared.endpoint.Moment.{Moment}
use Rattle.coap_types.specs.FirstMoment.{IsFirstMoment}

module _ (clock : ℕ) (has : ℕ → Bool) where
  -- nothing, where nothing is due then
  module _ (Rests : ℕ → Type 0) (rests : (later : ℕ) → has (max clock later) ≡ false → Rests later) (now : ℕ) where
    pub none_of : (m : Option Moment) → max clock now < 2 ^ 64 → IsFirstMoment has (max clock now) m
        → IfNone m ((later : ℕ) → now ≤ later → later < 2 ^ 64 → Rests later)
    none_of (Some at) range h = tt
    none_of None range h = λ later le less. rests later
        (h (max clock later) (omega (arith, le)) (omega (arith, range, less)))

    pub some_of : (m : Option Moment) → IsFirstMoment has (max clock now) m
        → IfSome m (λ at. (later : ℕ) → now ≤ later → max clock later < at.0 → Rests later)
    some_of None h = tt
    some_of (Some at) h = λ later le less. rests later (h.not_before (max clock later) (omega (arith, le)) less)

  pub does_of : (Does : ℕ → Type 0) → ((at : ℕ) → has (max clock at) ≡ true → Does at) → (now : ℕ) (m : Option Moment)
      → IsFirstMoment has (max clock now) m → IfSome m (λ at. Does at.0)
  does_of Does does now None h = tt
  does_of Does does now (Some at) h =
      let le : max clock now ≤ at.0 = h.from_on in
      let is : at.0 ≡ max clock at.0 = omega (arith, le) in
      does at.0 (subst (λ (n : ℕ). has n ≡ true) is h.does)

  pub from_of : (from : ℕ) (m : Option Moment) → IsFirstMoment has from m → IfSome m (λ at. from ≤ at.0)
  from_of from None h = tt
  from_of from (Some at) h = h.from_on
