-- A separate response that a Reset or a failure ends is said once.
use Rattle.std.proofs.Common.{◌≡◌, ◌≤◌, ℕ, ◌+◌, Bool, true, false, Option, Some, None, List, [], ◌∷◌, ◌++◌, refl, ap}
use Rattle.std.proofs.Common.{subst, cond, arith, ◌&&◌, not}
use Rattle.std.specs.Bool.{beq}
use Rattle.std.specs.Option.{option_map}
use Rattle.coap_types.specs.declared.endpoint.Endpoint.{Endpoint}
use Rattle.coap_types.proofs.Facts.Endpoints.{same_endpoint_self}
use Rattle.coap_layer.specs.Trace as L
use Rattle.coap_exchange.specs.declared.answerer.Ended.{Ended}
use Rattle.coap_exchange.specs.declared.separate.Separate.{Separate}
use Rattle.coap_exchange.specs.AnswererTrace.{Call, Incoming, Ticks, Responds, Notifies}
use Rattle.coap_exchange.specs.AnswererSteps.{goes_to, found, ended_as, separate_of, without_separate, separate_after}
use Rattle.coap_exchange.specs.AnswererSteps.{separate_unless, reset_by, failed_by}
use Rattle.coap_exchange.specs.AnswererLaw.{own_of}
use Rattle.coap_exchange.specs.AnswererFollows.{hits, times, sends, end_told, same_ended, ToldOnce, EndsOnce}
use Rattle.coap_exchange.proofs.Facts.SameToken.{same_token_self}

beq_self : (b : Bool) → beq b b ≡ true
beq_self true = refl
beq_self false = refl

all : (p q r : Bool) → p ≡ true → q ≡ true → r ≡ true → (p && (q && r)) ≡ true
all p q r hp hq hr = cc (hp, hq, hr)

self_hits : (x : Ended) → hits (same_ended x) (Some x) ≡ 1
self_hits x = ap (λ b. cond b 1 0) (all _ _ _ (same_endpoint_self x.to) (same_token_self x.token) (beq_self x.observe))

-- how many like it are outstanding
abbrev separate_hits : Ended → List Separate → ℕ
separate_hits x [] = 0
separate_hits x (y ∷ ys) = hits (same_ended x) (Some (ended_as y)) + separate_hits x ys

hits_with : (x : Ended) (ys : List Separate) (y : Separate)
    → separate_hits x (ys ++ y ∷ []) ≡ separate_hits x ys + hits (same_ended x) (Some (ended_as y))
hits_with x [] y = omega arith
hits_with x (z ∷ ys) y = let h = hits_with x ys y in omega (arith, h)

module _ (x : Ended) (to : Endpoint) (id : ℕ) where
  less_by : (y : Separate) (ys zs : List Separate) (b : Bool) → separate_hits x zs ≤ separate_hits x ys
      → separate_hits x (cond b (y ∷ zs) zs) ≤ separate_hits x (y ∷ ys)
  less_by y ys zs true h = omega (arith, h)
  less_by y ys zs false h = omega (arith, h)

  less : (ys : List Separate) → separate_hits x (without_separate to id ys) ≤ separate_hits x ys
  less [] = omega arith
  less (y ∷ ys) = less_by y ys (without_separate to id ys) (not (goes_to to id y)) (less ys)

  found_by : (y : Separate) (ys : List Separate) (b : Bool)
      → hits (same_ended x) (option_map ended_as (found to id ys)) + separate_hits x
      (without_separate to id ys) ≤ separate_hits x ys
      → hits (same_ended x) (option_map ended_as (cond b (Some y) (found to id ys))) + separate_hits x
      (cond (not b) (y ∷ without_separate to id ys) (without_separate to id ys)) ≤ separate_hits x (y ∷ ys)
  found_by y ys true h = let l = less ys in omega (arith, l)
  found_by y ys false h = omega (arith, h)

  found_less : (ys : List Separate) → hits (same_ended x) (option_map ended_as (found to id ys)) + separate_hits x
      (without_separate to id ys) ≤ separate_hits x ys
  found_less [] = omega arith
  found_less (y ∷ ys) = found_by y ys (goes_to to id y) (found_less ys)

-- an arrival, and a tick, end what they say
module _ (x : Ended) (ys : List Separate) where
  abbrev Fewer : Option Ended → List Separate → Type 0
  Fewer said left = hits (same_ended x) said + separate_hits x left ≤ separate_hits x ys

  arrival_fewer : (from : Endpoint) (up : L.Answer) → Fewer (reset_by from up ys) (separate_after from up ys)
  arrival_fewer from (L.Becomes (L.Acked id)) = let l = less x from id ys in omega (arith, l)
  arrival_fewer from (L.Becomes (L.Reset id)) = found_less x from id ys
  arrival_fewer from _ = omega arith

  tick_fewer : (below : L.Answer) → Fewer (failed_by below ys) (separate_unless below ys)
  tick_fewer (L.Expired to id) = found_less x to id ys
  tick_fewer _ = omega arith

-- what was said and what is outstanding was sent
abbrev Sent : List Call → Type 0
Sent t = (x : Ended) → times (same_ended x) end_told t + separate_hits x (own_of t).separate ≤ times (same_ended x)
    (λ old b. sends b) t

module _ (t : List Call) (sent : Sent t) where
  quiet : (c : Call) → end_told t c ≡ None → ToldOnce t c
  quiet c none = record { once = λ x h. absurd (cc (h, none)) }

  says_one : (c : Call) (left : List Separate)
      → ((x : Ended) → hits (same_ended x) (end_told t c) + separate_hits x left ≤ separate_hits x (own_of t).separate)
      → ToldOnce t c
  says_one c left f = record {
    once = λ x h.
        let k = sent x in
        let one = self_hits x in
        let fewer = subst (λ o. hits (same_ended x) o + separate_hits x left ≤ separate_hits x (own_of t).separate) h
        (f x) in
        omega (arith, k, one, fewer);
  }

  on : (c : Call) → ToldOnce t c × Sent (c ∷ t)
  on (Incoming now from bytes up answer) =
      let f : (x : Ended) → hits (same_ended x) (reset_by from up (own_of t).separate) + separate_hits x
      (separate_after from up (own_of t).separate) ≤ separate_hits x (own_of t).separate =
      λ x. arrival_fewer x (own_of t).separate from up in (
        says_one (Incoming now from bytes up answer) (separate_after from up (own_of t).separate) f,
        λ x. let k = sent x in let l = f x in omega (arith, k, l),
      )
  on (Ticks now below room answer) =
      let f : (x : Ended) → hits (same_ended x) (failed_by below (own_of t).separate) + separate_hits x
      (separate_unless below (own_of t).separate) ≤ separate_hits x (own_of t).separate =
      λ x. tick_fewer x (own_of t).separate below in (
        says_one (Ticks now below room answer) (separate_unless below (own_of t).separate) f,
        λ x. let k = sent x in let l = f x in omega (arith, k, l),
      )
  on (Responds now a r word id) = (
    quiet _ refl,
    λ x. let k = sent x in let l = hits_with x (own_of t).separate (separate_of a.from id a.token r) in omega
        (arith, k, l),
  )
  on (Notifies now to token r word id) = (
    quiet _ refl,
    λ x. let k = sent x in let l = hits_with x (own_of t).separate (separate_of to id token r) in omega (arith, k, l),
  )
  on _ = (quiet _ refl, λ x. let k = sent x in omega (arith, k))

said : (t : List Call) → EndsOnce t × Sent t
said [] = (tt, λ x. omega arith)
said (c ∷ t) = let earlier = said t in let here = on t earlier.1 c in ((here.0, earlier.0), here.1)

pub ends_once : (t : List Call) → EndsOnce t
ends_once t = (said t).0
