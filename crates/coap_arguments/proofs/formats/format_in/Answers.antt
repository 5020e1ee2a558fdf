use Rattle.std.proofs.Common.{◌⊎◌, ◌<◌, ◌≤◌, ◌-◌, ◌^◌, ℕ, Option, Some, None, inl, inr}
use Rattle.std.specs.Option.{MatchOption}
use Rattle.coap_arguments.proofs.formats.format_in.Goals as goal

-- where no name says one, a number does
by_number : (A B : ℕ → Type 0) (o : Option ℕ) → ((n : ℕ) → B n → ⊥)
    → MatchOption o ((n : ℕ) → A n → 2 ^ 16 - 1 < n) (λ n. A n × (n ≤ 2 ^ 16 - 1))
    → MatchOption o ((n : ℕ) → A n ⊎ B n → 2 ^ 16 - 1 < n) (λ n. (A n ⊎ B n) × (n ≤ 2 ^ 16 - 1))
by_number A B None never is = λ n h. elim h [ inl number ↦ is n number | inr name ↦ absurd (never n name) ]
by_number A B (Some n) never is = (inl is.0, is.1)

pub returns-in-None : goal.returns-in-None
returns-in-None c = by_number _ _ c.small_number.result c.in-None.ensures c.small_number.ensures
