-- Calls of the message layer, one behind the other: they are joined and parted, and leave and answer the same.
use Rattle.std.proofs.Common.{◌≡◌, ℕ, List, [], ◌∷◌, ◌++◌, ap, sym, ◌∙◌, subst, refl}
use Rattle.coap_layer.specs.Machine.State as L
use Rattle.coap_layer.specs.Machine.State.{answer_of}
use Rattle.coap_layer.specs.Machine.Steps.{Asked, Steps}
use Rattle.coap_layer.specs.Trace as T
use Rattle.coap_layer.proofs.Facts.Calls.{steps_left}

pub steps_join : (old mid new : L.State) (later earlier : List Asked) → Steps old earlier mid → Steps mid later new
    → Steps old (later ++ earlier) new
steps_join old mid new [] earlier h k = subst (Steps old earlier) (sym k) h
steps_join old mid new (a ∷ later) earlier h k = (k.0, steps_join old mid k.0 later earlier h k.1, k.2)

pub steps_split : (old new : L.State) (later earlier : List Asked) → Steps old (later ++ earlier) new
    → (mid : L.State) × Steps old earlier mid × Steps mid later new
steps_split old new [] earlier h = (new, h, refl)
steps_split old new (a ∷ later) earlier h = let k = steps_split old h.0 later earlier h.1 in (k.0, k.1, (h.0, k.2, h.2))

-- the same calls leave the same
pub one_left : (old : L.State) (calls : List Asked) (new other : L.State) → Steps old calls new → Steps old calls other
    → new ≡ other
one_left old calls new other h k = steps_left old calls new h ∙ sym (steps_left old calls other k)

-- a call of equal states is answered alike
pub one_answer : (old same new other : L.State) (now : ℕ) (call : T.Call) (a b : T.Answer) → old ≡ same
    → L.Step old now call a new → L.Step same now call b other → a ≡ b
one_answer old same new other now call a b e h k = h.right
    ∙ (ap (λ s. answer_of s (L.moment s now call) call) e ∙ sym k.right)
