-- When a call is refused by the text of its path.
use Rattle.std.specs.Prelude.{◌≡◌, ℕ, ℤ, List}
use Rattle.coap_paths.specs.PathTexts.{SpellsPath}
use Rattle.knifesilver.specs.declared.answers.TheConstants.{BAD_PATH as bad_path}

-- only where the text spells no path, and always there
pub record RefusesPath (text : List ℕ) (answer : ℤ) : Type 0 where
  pub only : answer ≡ bad_path → SpellsPath text → ⊥
  pub always : (SpellsPath text → ⊥) → answer ≡ bad_path
