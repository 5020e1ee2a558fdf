-- What the message layer of a server sends beside Empty messages carries a response that its exchanges were given.
use Rattle.std.proofs.Common.{inl, inr, List, [], ◌∷◌}
use Rattle.coap_types.specs.Past.{Ever}
use Rattle.coap_layer.specs.Machine.State as S
use Rattle.coap_layer.specs.Machine.Steps as G
use Rattle.coap_layer.specs.Machine.Steps.{entries}
use Rattle.coap_layer.specs.Trace as L

-- from the entries of the layer to what was asked of it
pub called : (K : L.Call → Type 0) (old : S.State) (calls : List G.Asked)
    → Ever (λ (e : L.Entry). K e.call) (entries old calls) → Ever (λ (b : G.Asked). K b.call) calls
called K old [] h = h
called K old (a ∷ earlier) (inl h) = inl h
called K old (a ∷ earlier) (inr h) = inr (called K old earlier h)
