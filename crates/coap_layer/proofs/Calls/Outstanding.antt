-- What the CONs that are kept stand for, now and as the last input found them.
use Rattle.std.proofs.Common.{◌≡◌, ℕ, Bool, true, false, Option, Some, None, List, [], ◌∷◌, ◌++◌, map, filter, refl, ap}
use Rattle.std.proofs.Common.{◌∙◌, ◌&&◌, ◌||◌, cond, is_some}
use Rattle.std.proofs.lemmas.List.{append-nil}
use Rattle.std.specs.List.{list_any, cons_option}
use Rattle.coap_types.specs.declared.endpoint.Endpoint.{Endpoint}
use Rattle.coap_types.specs.declared.endpoint.Moment.{Moment}
use Rattle.coap_types.specs.SameEndpoint.{same_endpoint}
use Rattle.coap_layer.specs.declared.retransmission.Sending.{Sending}
use Rattle.coap_layer.specs.Machine.Parts.{open_before, settled, put_back}
use Rattle.coap_layer.specs.Machine.Sendings.{open_at, open_now, ended, marked}
use Rattle.coap_layer.specs.Machine.State.{is_busy}
use Rattle.coap_layer.specs.declared.arriving.Arriving.{Arriving}
use Rattle.coap_layer.specs.Machine.Arriving.{ends, open_by, without_open}
use Rattle.coap_layer.specs.Words.{Open, same}

cons_more : (o : Option Open) (xs ys zs : List Open) → xs ≡ ys ++ zs → cons_option o xs ≡ cons_option o ys ++ zs
cons_more None xs ys zs e = e
cons_more (Some x) xs ys zs e = ap (λ w. x ∷ w) e

module _ {Z : Type 0} where
  busy_one : (to : Endpoint) (c : Sending Z) (cs : List Open) (b : Bool) (l : Option Moment) → b ≡ is_busy to cs
      → (is_some l && same_endpoint c.to to || b) ≡ is_busy to (cons_option (open_at c l) cs)
  busy_one to c cs b None e = e
  busy_one to c cs b (Some l) e = ap (λ d. same_endpoint c.to to || d) e

  -- the test, over what the list stands for
  pub busy_is : (to : Endpoint) (cs : List (Sending Z))
      → list_any (λ c. is_some c.last && same_endpoint c.to to) cs ≡ is_busy to (open_now cs)
  busy_is to [] = refl
  busy_is to (c ∷ cs) = busy_one to c (open_now cs) _ c.last (busy_is to cs)

  kept_one : (c : Sending Z) (cs : List (Sending Z)) (os : List Open) (l : Option Moment) → c.last ≡ l
      → open_now cs ≡ os
      → open_now (cond (is_some l) (c ∷ cs) cs) ≡ cons_option (open_at c l) os
  kept_one c cs os None h e = e
  kept_one c cs os (Some l) h e = rw (h, e) refl

  pub dropped_open : (cs : List (Sending Z)) → open_now (filter (λ c. is_some c.last) cs) ≡ open_now cs
  dropped_open [] = refl
  dropped_open (c ∷ cs) = kept_one c (filter (λ c. is_some c.last) cs) (open_now cs) c.last refl (dropped_open cs)

  -- only these parts of it count
  same_open : (c d : Sending Z) (l : Option Moment) → c.to ≡ d.to → c.id ≡ d.id → c.bytes ≡ d.bytes
      → c.timeout ≡ d.timeout → c.first ≡ d.first → open_at c l ≡ open_at d l
  same_open c d None a b e f g = refl
  same_open c d (Some l) a b e f g = cc

  pub settled_open : (cs : List (Sending Z)) → open_now (map settled cs) ≡ open_now cs
  settled_open [] = refl
  settled_open (c ∷ cs) = rw (same_open (settled c) c c.last refl refl refl refl refl)
      (ap (cons_option (open_at c c.last)) (settled_open cs))

  pub settled_before : (cs : List (Sending Z)) → open_before (map settled cs) ≡ open_now cs
  settled_before [] = refl
  settled_before (c ∷ cs) = rw (same_open (settled c) c c.last refl refl refl refl refl)
      (ap (cons_option (open_at c c.last)) (settled_before cs))

  pub back_open : (cs : List (Sending Z)) → open_now (map put_back cs) ≡ open_before cs
  back_open [] = refl
  back_open (c ∷ cs) = rw (same_open (put_back c) c c.before refl refl refl refl refl)
      (ap (cons_option (open_at c c.before)) (back_open cs))

  pub ended_before : (to : Endpoint) (id : ℕ) (cs : List (Sending Z))
      → open_before (map (ended to id) cs) ≡ open_before cs
  ended_before to id [] = refl
  ended_before to id (c ∷ cs) = rw (same_open (ended to id c) c c.before refl refl refl refl refl)
      (ap (cons_option (open_at c c.before)) (ended_before to id cs))

  pub marked_before : (to : Endpoint) (id : ℕ) (at : Moment) (cs : List (Sending Z))
      → open_before (map (marked to id at) cs) ≡ open_before cs
  marked_before to id at [] = refl
  marked_before to id at (c ∷ cs) = rw (same_open (marked to id at c) c c.before refl refl refl refl refl)
      (ap (cons_option (open_at c c.before)) (marked_before to id at cs))

  pub more_open : (cs ds : List (Sending Z)) → open_now (cs ++ ds) ≡ open_now cs ++ open_now ds
  more_open [] ds = refl
  more_open (c ∷ cs) ds = cons_more (open_at c c.last) _ _ _ (more_open cs ds)

  pub more_before : (cs ds : List (Sending Z)) → open_before (cs ++ ds) ≡ open_before cs ++ open_before ds
  more_before [] ds = refl
  more_before (c ∷ cs) ds = cons_more (open_at c c.before) _ _ _ (more_before cs ds)

  -- what an end leaves
  left_one : (to : Endpoint) (id : ℕ) (c : Sending Z) (cs : List Open) (l : Option Moment) (b : Bool)
      → same to id c.to c.id.0 ≡ b
      → cons_option (open_at c (cond b None l)) (without_open to id cs)
      ≡ without_open to id (cons_option (open_at c l) cs)
  left_one to id c cs None true e = refl
  left_one to id c cs None false e = refl
  left_one to id c cs (Some l) true e = rw e refl
  left_one to id c cs (Some l) false e = rw e refl

  pub ended_open : (to : Endpoint) (id : ℕ) (cs : List (Sending Z))
      → open_now (map (ended to id) cs) ≡ without_open to id (open_now cs)
  ended_open to id [] = refl
  ended_open to id (c ∷ cs) = ap (cons_option (open_at (ended to id c) (ended to id c).last)) (ended_open to id cs)
      ∙ left_one to id c (open_now cs) c.last _ refl

pub ended_by : (from : Endpoint) (a : Arriving) (cs ds : List Open) → ends a.verdict ≡ true
    → ds ≡ without_open from a.id.0 cs → ds ≡ open_by from a cs
ended_by from a cs ds h e = rw h e

-- one more that is begun
pub begun_open : {Z : Type 0} (cs ds : List (Sending Z)) (c : Sending Z) (at : Moment) (t : ℕ) (bytes : List ℕ)
    → ds ≡ cs ++ c ∷ [] → c.last ≡ Some at → c.first ≡ at → c.timeout ≡ t → c.bytes.items ≡ bytes
    → open_now ds ≡ open_now cs ++ record {
      to = c.to;
      id = c.id.0;
      bytes = bytes;
      timeout = t;
      first = at.0;
      last = at.0;
    } ∷ []
begun_open cs ds c at t bytes more last first timeout is =
    ap open_now more ∙ (more_open cs (c ∷ []) ∙ ap (λ w. open_now cs ++ w) (rw last (cc (first, timeout, is))))

pub begun_before : {Z : Type 0} (cs ds : List (Sending Z)) (c : Sending Z) → ds ≡ cs ++ c ∷ [] → c.before ≡ None
    → open_before ds ≡ open_before cs
begun_before cs ds c more before =
    ap open_before more ∙ (more_before cs (c ∷ []) ∙ rw before (append-nil (open_before cs)))
