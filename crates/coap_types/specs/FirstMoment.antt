-- The first moment at which something holds: when a step falls due (RFC 7252, section 4.2).
use Rattle.std.specs.Prelude.{◌≡◌, ◌≤◌, ◌<◌, ◌^◌, ℕ, Bool, true, false, Option, Some, None}
use Rattle.coap_types.specs.declared.endpoint.Moment.{Moment}

-- it holds first at this moment, of those from a moment on
pub record HoldsFirst (holds : ℕ → Bool) (from at : ℕ) : Type 0 where
  pub from_on : from ≤ at
  pub does : holds at ≡ true
  pub not_before : (now : ℕ) → from ≤ now → now < at → holds now ≡ false

-- it holds at no moment from one on
abbrev pub HoldsNever : (ℕ → Bool) → ℕ → Type 0
HoldsNever holds from = (now : ℕ) → from ≤ now → now < 2 ^ 64 → holds now ≡ false

-- from this moment on, it holds first then; where there is none, never
abbrev pub IsFirstMoment : (ℕ → Bool) → ℕ → Option Moment → Type 0
IsFirstMoment holds from None = HoldsNever holds from
IsFirstMoment holds from (Some at) = HoldsFirst holds from at.0

-- where it holds at a moment, it holds from then on
abbrev pub HoldsOn : (ℕ → Bool) → Type 0
HoldsOn holds = (now later : ℕ) → now ≤ later → holds now ≡ true → holds later ≡ true
