-- What each element of a list has.
use Rattle.std.proofs.Common.{List, [], ◌∷◌}
pub use Rattle.coap_block.specs.Whole.{Each}

pub each_to : {X : Type 0} (P Q : X → Type 0) → ((x : X) → P x → Q x) → (xs : List X) → Each P xs → Each Q xs
each_to P Q f [] h = tt
each_to P Q f (x ∷ xs) h = (f x h.0, each_to P Q f xs h.1)
