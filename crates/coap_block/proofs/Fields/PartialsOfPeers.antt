-- Whose partial bodies are there.
use Rattle.std.proofs.Common.{◌≡◌, ◌≤◌, ◌+◌, ℕ, Bool, true, false, List, [], ◌∷◌, ◌&&◌, ◌||◌, ◌∙◌, refl, ap, cond}
use Rattle.std.proofs.Common.{arith, length, not, subst, sym}
use Rattle.std.specs.List.{list_any}
use Rattle.coap_types.specs.declared.endpoint.Endpoint.{Endpoint}
use Rattle.coap_types.specs.SameEndpoint.{same_endpoint}
use Rattle.coap_block.specs.declared.partial.Partial.{Partial}
use Rattle.coap_block.specs.declared.assembly_judging.TheConstants.{MAX_PARTIALS as max_partials}
use Rattle.coap_block.specs.Sizes.{Sizes}
use Rattle.coap_block.specs.AssemblyState.{AssemblyState, PartialBody, elsewhere, forgotten, is_live, without_peer}
use Rattle.coap_block.specs.AssemblyKept.{AreFew, body_of, others_of, partials_of, state_of}
use Rattle.coap_block.proofs.Joining.OthersOfAPeer.{fewer_elsewhere, forgotten_elsewhere}

pub any_there : {A : Type 0} (t : ℕ) (from : Endpoint) (ps : List (Partial A))
    → list_any (λ p. is_live t (body_of p) && same_endpoint p.key.from from) ps
    ≡ list_any (λ (b : PartialBody). same_endpoint b.key.from from) (forgotten t (partials_of ps))
any_there t from [] = refl
any_there {A} t from (p ∷ ps) = go (is_live t (body_of p)) (any_there t from ps)
  where
    go : (b : Bool)
        → list_any (λ (x : Partial A). is_live t (body_of x) && same_endpoint x.key.from from) ps
        ≡ list_any (λ (x : PartialBody). same_endpoint x.key.from from) (forgotten t (partials_of ps))
        → ((b && same_endpoint p.key.from from)
        || list_any (λ (x : Partial A). is_live t (body_of x) && same_endpoint x.key.from from) ps)
        ≡ list_any (λ (x : PartialBody). same_endpoint x.key.from from)
        (cond b (body_of p ∷ forgotten t (partials_of ps)) (forgotten t (partials_of ps)))
    go true e = ap (λ w. same_endpoint p.key.from from || w) e
    go false e = e

-- those that are left when an endpoint is forgotten
left_by : {A : Type 0} (b : Bool) (p : Partial A) (xs : List (Partial A)) (ys : List PartialBody)
    → partials_of xs ≡ ys → partials_of (cond b (p ∷ xs) xs) ≡ cond b (body_of p ∷ ys) ys
left_by true p xs ys e = ap (λ (r : List PartialBody). body_of p ∷ r) e
left_by false p xs ys e = e

kept_elsewhere : {A : Type 0} (from : Endpoint) (ps : List (Partial A))
    → partials_of (others_of from ps) ≡ elsewhere from (partials_of ps)
kept_elsewhere from [] = refl
kept_elsewhere from (p ∷ ps) = left_by (not (same_endpoint p.key.from from)) p (others_of from ps)
    (elsewhere from (partials_of ps)) (kept_elsewhere from ps)

pub state_elsewhere : {A : Type 0} (sizes : Sizes) (clock : ℕ) (from : Endpoint) (ps new : List (Partial A))
    → new ≡ others_of from ps
    → state_of sizes clock (partials_of new) ≡ without_peer from (state_of sizes clock (partials_of ps))
state_elsewhere {A} sizes clock from ps new is =
    let left : partials_of new ≡ elsewhere from (partials_of ps) =
    ap (λ (l : List (Partial A)). partials_of l) is ∙ kept_elsewhere from ps in
    let there : forgotten clock (partials_of new) ≡ elsewhere from (forgotten clock (partials_of ps)) =
    ap (λ (l : List PartialBody). forgotten clock l) left ∙ forgotten_elsewhere clock from (partials_of ps) in
    λ i. record { szx = sizes.szx; limit = sizes.limit; clock = clock; partials = there i }

-- are few where there were
pub few_elsewhere : {A : Type 0} (clock : ℕ) (from : Endpoint) (ps new : List (Partial A)) → new ≡ others_of from ps
    → AreFew clock (partials_of ps) → AreFew clock (partials_of new)
few_elsewhere {A} clock from ps new is few =
    let left : partials_of new ≡ elsewhere from (partials_of ps) =
    ap (λ (l : List (Partial A)). partials_of l) is ∙ kept_elsewhere from ps in
    let there : forgotten clock (partials_of new) ≡ elsewhere from (forgotten clock (partials_of ps)) =
    ap (λ (l : List PartialBody). forgotten clock l) left ∙ forgotten_elsewhere clock from (partials_of ps) in
    record {
      there = subst (λ (l : List PartialBody). length l ≤ max_partials) (sym there)
          (omega (arith, few.there, fewer_elsewhere from (forgotten clock (partials_of ps))));
      all = subst (λ (l : List PartialBody). length l ≤ max_partials + 1) (sym left)
          (omega (arith, few.all, fewer_elsewhere from (partials_of ps)));
    }
