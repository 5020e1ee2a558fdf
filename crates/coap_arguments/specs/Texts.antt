-- The values of an argument that may be given again and again, each of which says something.
use Rattle.std.specs.Prelude.{List, [], ◌∷◌, ⊤, Any, unwrap_or}
use Rattle.clap.specs.Words.{Row, Text, all_of}

-- the values of an argument that may be given again and again
abbrev pub texts_of : Text → List Row → List Text
texts_of name values = unwrap_or (all_of name values) []

-- each text says what is in its place
abbrev pub AreTexts : {V : Type 0} → (Text → V → Type 0) → List Text → List V → Type 0
AreTexts Says [] [] = ⊤
AreTexts Says [] (v ∷ vs) = ⊥
AreTexts Says (text ∷ texts) [] = ⊥
AreTexts Says (text ∷ texts) (v ∷ vs) = Says text v × AreTexts Says texts vs

-- one of the texts says nothing
abbrev pub SomeSaysNone : {V : Type 0} → (Text → V → Type 0) → List Text → Type 0
SomeSaysNone {V} Says texts = Any (λ text. (v : V) → Says text v → ⊥) texts
