-- What calls answer: a number, below 0 where the call itself refused, and nothing was done.
use Rattle.std.specs.Prelude.{◌≡◌, ◌≢◌, ◌⊎◌, ℤ, pos, negsuc, Bool, true, false, ⊤}
use Rattle.knifesilver_exchange.specs.declared.answers.TheConstants.{NO_MEMORY as no_memory, NOT_LIVE as not_live}

-- nothing was done
abbrev pub IsRefused : ℤ → Type 0
IsRefused (pos n) = ⊥
IsRefused (negsuc n) = ⊤

-- .. since the handle holds no server, or an allocation was refused
abbrev pub IsUsual : ℤ → Type 0
IsUsual answer = (answer ≡ not_live) ⊎ (answer ≡ no_memory)

-- the server was called, and answered
abbrev pub IsAnswered : ℤ → Type 0
IsAnswered (pos n) = ⊤
IsAnswered (negsuc n) = ⊥

-- it was carried out, or there is nothing
abbrev pub IsOk : ℤ → Type 0
IsOk answer = answer ≡ pos 0

-- .. and where it refused, by a number above 0
abbrev pub IsNamed : ℤ → Type 0
IsNamed answer = IsAnswered answer × (answer ≢ pos 0)

-- 1 where there was something, and else 0
abbrev pub told : Bool → ℤ
told true = pos 1
told false = pos 0
