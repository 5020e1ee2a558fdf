-- What is called again and again until it has no more: ticks, and what is taken (RFC 7252, section 4.2).
use Rattle.std.specs.Prelude.{Bool, true, false, Option, Some, None, List, [], ◌∷◌, map}
use Rattle.coap_types.specs.Past.{Always}

-- ticks, up to the first that does nothing
abbrev pub UpToIdle : {X : Type 0} → (Bool → X → Type 0) → List X → Type 0
UpToIdle IsTick [] = ⊥
UpToIdle IsTick (c ∷ earlier) = IsTick false c × Always (λ past b. IsTick true b) earlier

-- what is taken, up to where there is none
abbrev pub all_taken : {X A : Type 0} → (Option A → X) → List A → List X
all_taken call xs = call None ∷ map (λ x. call (Some x)) xs
