-- From what a call did to a server to what it did to a handle.
use Rattle.std.proofs.Common.{◌≡◌, ◌∙◌, sym, ap, subst, ℤ, Option, Some}
use Rattle.knifesilver_exchange.specs.declared.held.Held.{Held}

-- What was taken out was lent to the call, and put back; the answer is that of the call.
pub carried : (P : ℤ → Option Held → Option Held → Type 0) {answer told : ℤ} {old new : Option Held}
    {taken lent left : Held} → answer ≡ told → Some taken ≡ old → lent ≡ taken → new ≡ Some left
    → P told (Some lent) (Some left) → P answer old new
carried P {told = told} {old = old} {new = new} {left = left} same was lends is p =
    subst (λ a. P a old new) (sym same) (subst (λ n. P told old n) (sym is)
    (subst (λ o. P told o (Some left)) (ap Some lends ∙ was) p))
