-- The partial bodies that are left when an endpoint is forgotten.
use Rattle.std.proofs.Common.{◌≡◌, ◌≢◌, ◌∙◌, ℕ, Bool, true, false, not, ◌||◌, ◌≤◌, List, [], ◌∷◌, length, Option, Some}
use Rattle.std.proofs.Common.{None, if◌then◌else◌, refl, ap, sym, arith}
use Rattle.std.specs.List.{list_any}
use Rattle.coap_types.specs.declared.endpoint.Endpoint.{Endpoint}
use Rattle.coap_types.specs.SameEndpoint.{same_endpoint}
use Rattle.coap_types.proofs.Facts.Endpoints.{same_endpoint_is}
use Rattle.coap_block.specs.AssemblyState.{Key, PartialBody, same_key, is_live, forgotten, partial_of, elsewhere}
use Rattle.coap_block.specs.AssemblyTrace.{AreDistinct, ForgettingLeaves, ForgottenHasNone}
use Rattle.coap_block.proofs.Facts.Keys.{same_key-decides}

-- what a key has is left, unless it is of that endpoint
left_step : (b s : Bool) (from : Endpoint) (key : Key) (p : PartialBody) (ps : List PartialBody)
    → same_endpoint p.key.from from ≡ b → same_key p.key key ≡ s
    → partial_of key (elsewhere from ps) ≡ (if same_endpoint key.from from then None else partial_of key ps)
    → partial_of key (if not b then p ∷ elsewhere from ps else elsewhere from ps)
    ≡ (if same_endpoint key.from from then None else if s then Some p else partial_of key ps)
left_step true true from key p ps of is ih =
    let k : p.key ≡ key = (same_key-decides p.key key).0 is in
    let mine : same_endpoint key.from from ≡ true =
    ap (λ (x : Key). same_endpoint x.from from) (sym k) ∙ of in
    ih ∙ (ap (λ b. if b then None else partial_of key ps) mine
    ∙ sym (ap (λ b. if b then None else Some p) mine))
left_step true false from key p ps of is ih = ih
left_step false true from key p ps of is ih =
    let k : p.key ≡ key = (same_key-decides p.key key).0 is in
    let its : same_endpoint key.from from ≡ false =
    ap (λ (x : Key). same_endpoint x.from from) (sym k) ∙ of in
    ap (λ b. if b then Some p else partial_of key (elsewhere from ps)) is
    ∙ sym (ap (λ b. if b then None else Some p) its)
left_step false false from key p ps of is ih =
    ap (λ b. if b then Some p else partial_of key (elsewhere from ps)) is ∙ ih

none_either : (b : Bool) (o : Option PartialBody) → o ≡ None → o ≡ (if b then None else o)
none_either true o h = h
none_either false o h = refl

pub elsewhere_of : (from : Endpoint) (key : Key) (ps : List PartialBody)
    → partial_of key (elsewhere from ps) ≡ (if same_endpoint key.from from then None else partial_of key ps)
elsewhere_of from key [] = none_either (same_endpoint key.from from) (partial_of key []) refl
elsewhere_of from key (p ∷ ps) = left_step (same_endpoint p.key.from from) (same_key p.key key) from key p ps refl refl
    (elsewhere_of from key ps)

-- .. so what is left was there
was_by : (b : Bool) (o : Option PartialBody) (q : PartialBody) → (if b then None else o) ≡ Some q → o ≡ Some q
was_by true o q h = absurd cc
was_by false o q h = h

pub was_elsewhere : (from : Endpoint) (key : Key) (ps : List PartialBody) (q : PartialBody)
    → partial_of key (elsewhere from ps) ≡ Some q → partial_of key ps ≡ Some q
was_elsewhere from key ps q h =
    was_by (same_endpoint key.from from) (partial_of key ps) q (sym (elsewhere_of from key ps) ∙ h)

none_by : (b : Bool) (o : Option PartialBody) → o ≡ None → (if b then None else o) ≡ None
none_by true o h = refl
none_by false o h = h

distinct_step : (b : Bool) (from : Endpoint) (p : PartialBody) (ps : List PartialBody) → partial_of p.key ps ≡ None
    → AreDistinct (elsewhere from ps) → AreDistinct (if not b then p ∷ elsewhere from ps else elsewhere from ps)
distinct_step true from p ps none d = d
distinct_step false from p ps none d = (
  elsewhere_of from p.key ps ∙ none_by (same_endpoint p.key.from from) (partial_of p.key ps) none,
  d,
)

pub distinct_elsewhere : (from : Endpoint) (ps : List PartialBody) → AreDistinct ps → AreDistinct (elsewhere from ps)
distinct_elsewhere from [] d = tt
distinct_elsewhere from (p ∷ ps) d = distinct_step (same_endpoint p.key.from from) from p ps d.0
    (distinct_elsewhere from ps d.1)

fewer_step : (b : Bool) (p : PartialBody) (xs ps : List PartialBody) → length xs ≤ length ps
    → length (if not b then p ∷ xs else xs) ≤ length (p ∷ ps)
fewer_step true p xs ps h = omega (arith, h)
fewer_step false p xs ps h = omega (arith, h)

pub fewer_elsewhere : (from : Endpoint) (ps : List PartialBody) → length (elsewhere from ps) ≤ length ps
fewer_elsewhere from [] = omega arith
fewer_elsewhere from (p ∷ ps) = fewer_step (same_endpoint p.key.from from) p (elsewhere from ps) ps
    (fewer_elsewhere from ps)

-- it is one whether those of an endpoint go first, or those that are no longer there
both_step : (b l : Bool) (at : ℕ) (from : Endpoint) (p : PartialBody) (ps : List PartialBody)
    → same_endpoint p.key.from from ≡ b → is_live at p ≡ l
    → forgotten at (elsewhere from ps) ≡ elsewhere from (forgotten at ps)
    → forgotten at (if not b then p ∷ elsewhere from ps else elsewhere from ps)
    ≡ elsewhere from (if l then p ∷ forgotten at ps else forgotten at ps)
both_step true true at from p ps of is ih = ih
    ∙ sym (ap (λ b. if not b then p ∷ elsewhere from (forgotten at ps) else elsewhere from (forgotten at ps)) of)
both_step true false at from p ps of is ih = ih
both_step false true at from p ps of is ih =
    ap (λ l. if l then p ∷ forgotten at (elsewhere from ps) else forgotten at (elsewhere from ps)) is
    ∙ (ap (λ (xs : List PartialBody). p ∷ xs) ih
    ∙ sym (ap (λ b. if not b then p ∷ elsewhere from (forgotten at ps) else elsewhere from (forgotten at ps)) of))
both_step false false at from p ps of is ih =
    ap (λ l. if l then p ∷ forgotten at (elsewhere from ps) else forgotten at (elsewhere from ps)) is ∙ ih

pub forgotten_elsewhere : (at : ℕ) (from : Endpoint) (ps : List PartialBody)
    → forgotten at (elsewhere from ps) ≡ elsewhere from (forgotten at ps)
forgotten_elsewhere at from [] = refl
forgotten_elsewhere at from (p ∷ ps) =
    both_step (same_endpoint p.key.from from) (is_live at p) at from p ps refl refl (forgotten_elsewhere at from ps)

gone_step : (b : Bool) (from : Endpoint) (p : PartialBody) (ps : List PartialBody) → same_endpoint p.key.from from ≡ b
    → list_any (λ (x : PartialBody). same_endpoint x.key.from from) (elsewhere from ps) ≡ false
    → list_any (λ (x : PartialBody). same_endpoint x.key.from from)
    (if not b then p ∷ elsewhere from ps else elsewhere from ps) ≡ false
gone_step true from p ps of ih = ih
gone_step false from p ps of ih =
    ap (λ b. b || list_any (λ (x : PartialBody). same_endpoint x.key.from from) (elsewhere from ps)) of ∙ ih

pub forgotten_has_none : ForgottenHasNone
forgotten_has_none from [] = refl
forgotten_has_none from (p ∷ ps) = gone_step (same_endpoint p.key.from from) from p ps refl (forgotten_has_none from ps)

leaves_by : (b : Bool) (from : Endpoint) (other : Key) (o : Option PartialBody) → other.from ≢ from
    → same_endpoint other.from from ≡ b → (if b then None else o) ≡ o
leaves_by true from other o ne is = absurd (ne (same_endpoint_is other.from from is))
leaves_by false from other o ne is = refl

pub forgetting_leaves : ForgettingLeaves
forgetting_leaves from other ps ne = elsewhere_of from other ps
    ∙ leaves_by (same_endpoint other.from from) from other (partial_of other ps) ne refl
