-- Parts of a text, between marks of one byte.
use Rattle.std.specs.Prelude.{ℕ, Bool, [], ◌∷◌, ◌==◌, true, false}
use Rattle.std.specs.List.{after_first, before_first, list_any}
use Rattle.clap.specs.Words.{Text}

-- what stands before the first such byte of a text: all of it, where there is none
abbrev pub before : ℕ → Text → Text
before mark text = before_first (λ b. b == mark) text

-- what stands behind it: nothing, where there is none
abbrev pub behind : ℕ → Text → Text
behind mark text = after_first (λ b. b == mark) text

abbrev pub has : ℕ → Text → Bool
has mark text = list_any (λ b. b == mark) text

abbrev pub is_nothing : Text → Bool
is_nothing [] = true
is_nothing (b ∷ bs) = false
