-- The last of some calls of a layer, and what it takes of what waits to be sent.
use Rattle.std.proofs.Common.{◌≡◌, ◌<◌, Some, List, [], ◌∷◌, ◌++◌, drop, length, slice_get, refl, ap, subst, ◌∙◌, arith}
use Rattle.std.proofs.lemmas.List.{append-nil}
use Rattle.coap_layer.specs.Machine.State as S
use Rattle.coap_layer.specs.Machine.Steps.{Asked, Steps, left_after}
use Rattle.coap_layer.specs.Trace as L
use Rattle.coap_exchange.specs.AskerRequests.{asked}
use Rattle.coap_exchange.proofs.Facts.ComesUp.{left_is}

pub last_step : (old new : S.State) (a : Asked) (earlier : List Asked) → Steps old (a ∷ earlier) new
    → S.Step (left_after old earlier) a.now a.call a.answer (left_after old (a ∷ earlier))
last_step old new a earlier h =
    let same = left_is old h.0 earlier h.1 in
    record {
      may = subst (λ s. S.May s a.call) same h.2.may;
      right = h.2.right ∙ ap (λ s. S.answer_of s (S.moment s a.now a.call) a.call) same;
      new_is = refl;
    }

one_less : (q : List L.Packet) (p : L.Packet) → Some p ≡ slice_get q 0 → length (drop 1 q ++ []) < length q
one_less [] p h = absurd (cc h)
one_less (x ∷ q) p h = let e = ap length (append-nil q) in omega (arith, e)

pub take_less : (old new : S.State) (p : L.Packet) (earlier : List Asked)
    → Steps old (asked 0 L.Take (L.Gives (Some p)) ∷ earlier) new
    → length (left_after old (asked 0 L.Take (L.Gives (Some p)) ∷ earlier)).queue < length
    (left_after old earlier).queue
take_less old new p earlier h =
    let step = last_step old new (asked 0 L.Take (L.Gives (Some p))) earlier h in
    let same : Some p ≡ slice_get (left_after old earlier).queue 0 = cc (step.right) in
    one_less (left_after old earlier).queue p same
