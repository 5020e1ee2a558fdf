-- What calls answer: a number, below 0 where the call itself refused, and nothing was done.
use Rattle.std.specs.Prelude.{◌≡◌, ◌⊎◌, ℤ, pos, negsuc, Bool, true, false, ⊤}
use Rattle.knifesilver.specs.declared.answers.TheConstants.{NO_MEMORY as no_memory, NOT_LIVE as not_live}

-- nothing was done
abbrev pub IsRefused : ℤ → Type 0
IsRefused (pos n) = ⊥
IsRefused (negsuc n) = ⊤

-- .. since the handle holds no such end, or an allocation was refused
abbrev pub IsUsual : ℤ → Type 0
IsUsual answer = (answer ≡ not_live) ⊎ (answer ≡ no_memory)

-- the end was called, and answered
abbrev pub IsAnswered : ℤ → Type 0
IsAnswered (pos n) = ⊤
IsAnswered (negsuc n) = ⊥

-- 1 where there was something, and else 0
abbrev pub told : Bool → ℤ
told true = pos 1
told false = pos 0
