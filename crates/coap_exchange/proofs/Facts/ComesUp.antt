-- What a server serves, or refuses, its message layer handed up in a call, and there it came to this.
use Rattle.std.proofs.Common.{◌≡◌, inl, inr, List, [], ◌∷◌, ap, subst, ◌∙◌}
use Rattle.coap_types.specs.Past.{Ever}
use Rattle.coap_layer.specs.Trace as L
use Rattle.coap_layer.specs.Machine.State as S
use Rattle.coap_layer.specs.Machine.Steps.{Steps, entries, left_after}
use Rattle.coap_layer.specs.Machine.Steps as G

-- an entry for each call
pub left_is : (old new : S.State) (calls : List G.Asked) → Steps old calls new → new ≡ left_after old calls
left_is old new [] h = h
left_is old new (a ∷ earlier) h = h.2.new_is ∙ ap (λ s. S.forgotten (S.after s (S.made s a.now a.call)))
    (left_is old h.0 earlier h.1)

pub entry_of : (K : L.Call → L.Answer → Type 0) (old new : S.State) (calls : List G.Asked) → Steps old calls new
    → Ever (λ (b : G.Asked). K b.call b.answer) calls → Ever (λ (e : L.Entry). K e.call e.answer) (entries old calls)
entry_of K old new [] h e = e
entry_of K old new (a ∷ earlier) h (inr e) = inr (entry_of K old h.0 earlier h.1 e)
entry_of K old new (a ∷ earlier) h (inl e) =
    let s : S.State = left_after old earlier in
    let right : a.answer ≡ S.answer_of s (S.moment s a.now a.call) a.call =
    subst (λ w. a.answer ≡ S.answer_of w (S.moment w a.now a.call) a.call)
    (left_is old h.0 earlier h.1) h.2.right in
    inl (subst (K a.call) right e)
