-- The tokens that are written for the members of an object.
use Rattle.std.specs.Prelude.{◌≡◌, List, [], ◌∷◌, ◌++◌, Result, OnOk}
use Rattle.json.specs.Token.{Token, key}
use Rattle.json.specs.Tree.{json_tokens}
use Rattle.json.specs.Written.{Written}
use Rattle.coap_json.specs.Objects.{Field}

abbrev pub fields_tokens : List Field → List Token
fields_tokens [] = []
fields_tokens (f ∷ fs) = key f.0 ∷ (json_tokens f.1 ++ fields_tokens fs)

-- the tokens stand behind those that were there
pub record Adds {E : Type 0} (r : Result (Unit {0}) E) (old new : Written) (ts : List Token) : Type 0 where
  pub tokens : OnOk r (new.tokens ≡ old.tokens ++ ts)
  pub before : new.before ≡ old.before

abbrev pub AddsFields : {E : Type 0} → Result (Unit {0}) E → Written → Written → List Field → Type 0
AddsFields r old new fields = Adds r old new (fields_tokens fields)
