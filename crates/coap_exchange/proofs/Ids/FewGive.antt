-- Where few messages come, few are handed up while no Message ID is given again.
use Rattle.std.proofs.Common.{◌≡◌, ℕ, ◌+◌, ◌*◌, ◌≤◌, ◌<◌, nat_le, Bool, true, false, Option, Some, None, List, [], ◌∷◌}
use Rattle.std.proofs.Common.{refl, ◌∙◌, subst, ap, arith, cond, ◌&&◌, is_some, if◌then◌else◌, ◌++◌}
use Rattle.std.proofs.lemmas.Bool.{le-leb, leb-true}
use Rattle.coap_types.specs.declared.transmission.TheConstants.{ID_REUSE_AFTER_MS as id_reuse_after}
use Rattle.coap_layer.specs.Ids.{Issued}
use Rattle.coap_layer.specs.Machine.State as L
use Rattle.coap_layer.specs.Machine.State.{tick_of}
use Rattle.coap_layer.specs.Rows.{LayerLaw}
use Rattle.coap_layer.specs.Taking.{is_then, came, came_since, issued_since, FewCome}
use Rattle.coap_layer.specs.declared.setup.Setup.{Setup}
use Rattle.coap_layer.specs.Trace.{Answer, Sent, Copied, Expired}
use Rattle.coap_layer.specs.Trace.{Entry}
use Rattle.coap_layer.specs.Words.{clock, Incoming, handed, issued_by, numbers, sent_by, Open}
use Rattle.coap_exchange.specs.Counts.{count_since, count_then}
use Rattle.coap_exchange.proofs.Ids.CountsOfFew.{Rises, since_reuse}

abbrev pub is_handed : Entry → Bool
is_handed e = is_some (handed e)

step : (o : Option Incoming) (b : Bool) (x y : ℕ) → x ≡ y
    → elim o [ Some m ↦ (if b then 1 + x else x) | None ↦ x ] ≡ cond (is_some o && b) (1 + y) y
step (Some m) true x y e = ap (λ n. 1 + n) e
step _ _ x y e = e

came_counts : (u : ℕ) (t : List Entry) → came_since u t ≡ count_since clock is_handed u t
came_counts u [] = refl
came_counts u (e ∷ t) = step (handed e) (nat_le u e.at) _ _ (came_counts u t)

then_counts : (u : ℕ) (t : List Entry) → came u t ≡ count_then clock is_handed u t
then_counts u [] = refl
then_counts u (e ∷ t) = step (handed e) (is_then u e.at) _ _ (then_counts u t)

pub rises : (setup : Setup) (t : List Entry) → LayerLaw setup t → Rises clock is_handed t
rises setup [] law = tt
rises setup (e ∷ t) law = (law.0.time, rises setup t law.1)

pub few_came : (setup : Setup) (most less u now : ℕ) (t : List Entry) → LayerLaw setup t → FewCome most t
    → most ≤ less + 1 → clock t ≤ now → now ≤ u + id_reuse_after → came_since u t ≤ 2 * less
few_came setup most less u now t law few le till young =
    let a = since_reuse clock is_handed most less u now t (rises setup t law)
    (λ v. subst (λ n. n < most) (then_counts v t) (few v)) le till young in
    let b = came_counts u t in
    omega (arith, a, b)

-- one entry more

pub came_grows : (u : ℕ) (e : Entry) (t : List Entry) → came_since u t ≤ came_since u (e ∷ t)
came_grows u e t = by (handed e) (nat_le u e.at)
  where
    by : (o : Option Incoming) (b : Bool)
        → came_since u t ≤ elim o [
          | Some m ↦ (if b then 1 + came_since u t else came_since u t)
          | None ↦ came_since u t
        ]
    by None b = omega arith
    by (Some m) true = omega arith
    by (Some m) false = omega arith

pub came_one : (u : ℕ) (e : Entry) (t : List Entry) → is_some (handed e) ≡ true → u ≤ e.at
    → came_since u (e ∷ t) ≡ 1 + came_since u t
came_one u e t is le = by (handed e) (nat_le u e.at) is (le-leb u e.at le)
  where
    by : (o : Option Incoming) (b : Bool) → is_some o ≡ true → b ≡ true
        → elim o [ Some k ↦ (if b then 1 + came_since u t else came_since u t) | None ↦ came_since u t ]
        ≡ 1 + came_since u t
    by (Some k) true o b = refl
    by (Some k) false o b = absurd (cc b)
    by None b o k = absurd (cc o)

-- which Message IDs an entry gives

added : (u at : ℕ) (a : Answer) (ns : List Issued) → issued_since u (issued_by at a ++ ns)
    ≡ cond (is_some (sent_by a) && nat_le u at) (1 + issued_since u ns) (issued_since u ns)
added u at (Sent id) ns = refl
added u at _ ns = refl

pub at_most_one : (u : ℕ) (e : Entry) (t : List Entry)
    → issued_since u (numbers (e ∷ t)) ≤ 1 + issued_since u (numbers t)
at_most_one u e t =
    let a = added u e.at e.answer (numbers t) in
    let b = by (is_some (sent_by e.answer) && nat_le u e.at) (issued_since u (numbers t)) in
    omega (arith, a, b)
  where
    by : (b : Bool) (n : ℕ) → cond b (1 + n) n ≤ 1 + n
    by true n = omega arith
    by false n = omega arith

pub gives_none : (u : ℕ) (e : Entry) (t : List Entry) → sent_by e.answer ≡ None
    → issued_since u (numbers (e ∷ t)) ≡ issued_since u (numbers t)
gives_none u e t none = added u e.at e.answer (numbers t)
    ∙ ap (λ o. cond (is_some o && nat_le u e.at) (1 + issued_since u (numbers t)) (issued_since u (numbers t))) none

-- none behind the latest moment
pub none_issued : (setup : Setup) (u : ℕ) (t : List Entry) → LayerLaw setup t → clock t < u
    → issued_since u (numbers t) ≡ 0
none_issued setup u [] law less = refl
none_issued setup u (e ∷ t) law less =
    added u e.at e.answer (numbers t)
    ∙ by (is_some (sent_by e.answer)) (nat_le u e.at) (λ k. let l = leb-true u e.at k in absurd
    (omega (arith, l, less)))
    (issued_since u (numbers t))
    (none_issued setup u t law.1 (let k : clock t ≤ e.at = law.0.time in omega (arith, k, less)))
  where
    by : (k b : Bool) → (b ≡ true → ⊥) → (n : ℕ) → n ≡ 0 → cond (k && b) (1 + n) n ≡ 0
    by k true f n e = absurd (f refl)
    by true false f n e = e
    by false false f n e = e

-- a tick gives none
pub tick_none : (now : ℕ) (cs : List Open) → sent_by (tick_of now cs) ≡ None
tick_none now [] = refl
tick_none now (c ∷ cs) = by (L.is_failed now c) (L.is_copy_due now c) (tick_none now cs)
  where
    by : (f d : Bool) → sent_by (tick_of now cs) ≡ None
        → sent_by (cond f (Expired c.to c.id) (cond d (Copied c.to c.id) (tick_of now cs))) ≡ None
    by true d none = refl
    by false true none = refl
    by false false none = none
