-- What a notification makes of a client, by what it is to its observation (RFC 7641, sections 3.2 to 3.4).
use Rattle.std.proofs.Common.{◌≡◌, ◌≤◌, ℕ, ◌+◌, Bool, true, false, cond, not, Option, Some, None, List, [], ◌∷◌, Result}
use Rattle.std.proofs.Common.{map, ap, sym, ◌∙◌, subst, refl, arith}
use Rattle.std.specs.Prelude.{OnOk, ◌==◌}
use Rattle.std.proofs.lemmas.List.{append-nil}
use Rattle.coap_codec.specs.Message.{Message}
use Rattle.coap_observe.specs.Newer.{Watched as Mark, arrived, is_newer}
use Rattle.coap_exchange.specs.AskerLaw as X
use Rattle.coap_exchange.specs.Tokens.{same_token}
use Rattle.coap_client.specs.Trace.{Reported, Ended}
use Rattle.coap_client.specs.Own.{Operation, Notified, Observation, Own}
use Rattle.coap_client.specs.Observations.{dropped, observation_with, with_rest}
use Rattle.coap_client.specs.Observing.{first_rest, first_value, is_over, noticed, noticed_by, passed, renewed}
use Rattle.coap_client.specs.Places.{hit, in_observations}
use Rattle.coap_client.specs.Responses.{is_notification, sequence_in}
use Rattle.coap_client.specs.Effects.{Rests, stays}
use Rattle.coap_client.specs.Steps.{reporting}
use Rattle.coap_client.proofs.Facts.Places.PlaceLemmas.{hit_self, number_self}
use Rattle.coap_client.specs.Object.Happens.{AreFresh, Happens, IsDone, left, renewing, watching as watching_own}
use Rattle.coap_client.proofs.Facts.Calls.Happening.{a_notification, deed_happens, no_notification, on_ok, over_quiet}
use Rattle.coap_client.proofs.Facts.Calls.Happening.{rests_happens}

abbrev setting : ℕ → (Observation → Observation) → List Observation → List Observation
setting number f os = map (λ (p : Observation). cond (p.number == number) (f p) p) os

abbrev watching : Mark → Observation → Observation
watching w p = record p { watch = w }

abbrev clock_in : ℕ → Option Observation → Type 0
clock_in t None = Unit {0}
clock_in t (Some r) = r.watch.clock ≤ t

abbrev hit_in : ℕ → Option Observation → Type 0
hit_in n None = Unit {0}
hit_in n (Some r) = hit n r.number ≡ 1

pub found_fresh : (t : ℕ) (token : List ℕ) (o : Observation) (os : List Observation) → AreFresh t os
    → observation_with token os ≡ Some o → o.watch.clock ≤ t
found_fresh t token o [] f h = absurd (cc h)
found_fresh t token o (p ∷ os) f h = by (found_fresh t token o os f.1) (same_token token p.token) h
  where
    by : (observation_with token os ≡ Some o → o.watch.clock ≤ t) → (b : Bool)
        → cond b (Some p) (observation_with token os) ≡ Some o → o.watch.clock ≤ t
    by ih true k = subst (clock_in t) k f.0
    by ih false k = ih k

found_counts : (token : List ℕ) (o : Observation) (os : List Observation) → observation_with token os ≡ Some o
    → 1 ≤ in_observations o.number os
found_counts token o [] h = absurd (cc h)
found_counts token o (p ∷ os) h = by (found_counts token o os) (same_token token p.token) h
  where
    by : (observation_with token os ≡ Some o → 1 ≤ in_observations o.number os) → (b : Bool)
        → cond b (Some p) (observation_with token os) ≡ Some o → 1 ≤ in_observations o.number (p ∷ os)
    by ih true k =
        let same : hit p.number o.number ≡ 1 = subst (hit_in p.number) k (hit_self p.number) in
        omega (arith, same)
    by ih false k = let a = ih k in omega (arith, a)

none_setting : (number : ℕ) (f : Observation → Observation) (os : List Observation) → in_observations number os ≤ 0
    → setting number f os ≡ os
none_setting number f [] h = refl
none_setting number f (o ∷ os) h = by (none_setting number f os) (o.number == number) h
  where
    by : (in_observations number os ≤ 0 → setting number f os ≡ os) → (b : Bool)
        → cond b 1 0 + in_observations number os ≤ 0 → cond b (f o) o ∷ setting number f os ≡ o ∷ os
    by ih true k = absurd (omega (arith, k))
    by ih false k = ap (λ l. o ∷ l) (ih (omega (arith, k)))

-- the one with that token is the only one of its number
pub one_setting : (token : List ℕ) (f g : Observation → Observation) (o : Observation) (os : List Observation)
    → f o ≡ g o → observation_with token os ≡ Some o → in_observations o.number os ≤ 1
    → setting o.number f os ≡ setting o.number g os
one_setting token f g o [] same h one = refl
one_setting token f g o (p ∷ os) same h one = by (one_setting token f g o os same) (same_token token p.token) h
  where
    other : (b : Bool) → cond b 1 0 + in_observations o.number os ≤ 1 → 1 ≤ in_observations o.number os
        → setting o.number f os ≡ setting o.number g os
        → cond b (f p) p ∷ setting o.number f os ≡ cond b (g p) p ∷ setting o.number g os
    other true k l e = absurd (omega (arith, k, l))
    other false k l e = ap (λ l. p ∷ l) e

    here : (b : Bool) → p ≡ o → cond b 1 0 + in_observations o.number os ≤ 1 → (b ≡ true)
        → cond b (f p) p ∷ setting o.number f os ≡ cond b (g p) p ∷ setting o.number g os
    here true is k e =
        ap (λ q. f q ∷ setting o.number f os) is
        ∙ (ap (λ q. q ∷ setting o.number f os) same ∙ (ap (λ q. g q ∷ setting o.number f os) (sym is)
        ∙ ap (λ l. g p ∷ l) (none_setting o.number f os (omega (arith, k))
        ∙ sym (none_setting o.number g os (omega (arith, k))))))
    here false is k e = absurd (cc e)

    by : (observation_with token os ≡ Some o → in_observations o.number os ≤ 1
        → setting o.number f os ≡ setting o.number g os) → (b : Bool)
        → cond b (Some p) (observation_with token os) ≡ Some o
        → setting o.number f (p ∷ os) ≡ setting o.number g (p ∷ os)
    by ih true k =
        let is : p ≡ o = ap (λ (q : Option Observation). elim q [ None ↦ p | Some r ↦ r ]) k in
        here (p.number == o.number) is one (ap (λ (q : Observation). p.number == q.number) (sym is)
        ∙ number_self p.number)
    by ih false k = let c = found_counts token o os k in other (p.number == o.number) one c (ih k (omega (arith, one)))

-- the watch is set, and then what is to be fetched
pub both_set : (number : ℕ) (w : Mark) (r : Option Notified) (os : List Observation)
    → with_rest number r (setting number (watching w) os) ≡ setting number (λ p. record p { watch = w; rest = r }) os
both_set number w r [] = refl
both_set number w r (o ∷ os) = by (both_set number w r os) (o.number == number) refl
  where
    by : with_rest number r (setting number (watching w) os) ≡ setting number (λ p. record p { watch = w; rest = r }) os
        → (c : Bool) → (o.number == number) ≡ c
        → cond ((cond c (watching w o) o).number == number) (record (cond c (watching w o) o) { rest = r })
        (cond c (watching w o) o) ∷ with_rest number r (setting number (watching w) os)
        ≡ cond c (record o { watch = w; rest = r }) o ∷ setting number (λ p. record p { watch = w; rest = r }) os
    by ih true e = ap (λ c. cond c (record o { watch = w; rest = r }) (watching w o)
        ∷ with_rest number r (setting number (watching w) os)) e ∙ ap (λ l. record o { watch = w; rest = r } ∷ l) ih
    by ih false e = ap (λ c. cond c (record o { rest = r }) o ∷ with_rest number r (setting number (watching w) os)) e
        ∙ ap (λ l. o ∷ l) ih

pub watched_number : (number n : ℕ) (w : Mark) (os : List Observation)
    → in_observations n (setting number (watching w) os) ≡ in_observations n os
watched_number number n w [] = refl
watched_number number n w (o ∷ os) = by (o.number == number) (watched_number number n w os)
  where
    by : (b : Bool) → in_observations n (setting number (watching w) os) ≡ in_observations n os
        → hit (cond b (watching w o) o).number n + in_observations n (setting number (watching w) os)
        ≡ hit o.number n + in_observations n os
    by true ih = ap (λ k. hit o.number n + k) ih
    by false ih = ap (λ k. hit o.number n + k) ih

pub found_by : (token told : List ℕ) (os l : List Observation) (r v : Option Observation) → r ≡ observation_with told l
    → told ≡ token → l ≡ os → r ≡ v → observation_with token os ≡ v
found_by token told os l r v is same list value =
    ap (λ k. observation_with token k) (sym list) ∙ (ap (λ t. observation_with t l) (sym same) ∙ (sym is ∙ value))

pub watched_one : (number n : ℕ) (w : Mark) (os : List Observation) → in_observations n os ≤ 1
    → in_observations n (setting number (watching w) os) ≤ 1
watched_one number n w os h = let a = watched_number number n w os in omega (arith, a, h)

-- .. of what is live
pub watched_is : {B : Type 0} (f : B → Observation) (number : ℕ) (w : Mark) (seen : List Observation) (old new : List B)
    → new ≡ old → seen ≡ setting number (watching w) (map f new) → seen ≡ setting number (watching w) (map f old)
watched_is f number w seen old new is h = h ∙ ap (λ l. setting number (watching w) (map f l)) is

-- what waits is as before
pub as_queued : (s own : Own) (queue : List Operation) (running : Option Operation) (os : List Observation)
    (report : Option Reported) → queue ≡ s.queue
    → own ≡ reporting (record {
      own = record s { queue = queue; running = running; observations = os };
      report =
          report;
      deed = Rests;
    }) → own ≡ reporting
    (record { own = record s { running = running; observations = os }; report = report; deed = Rests })
as_queued s own queue running os report is h =
    h ∙ ap (λ q. reporting (record {
      own = record s { queue = q; running = running; observations = os };
      report =
          report;
      deed = Rests;
    })) is

pub renewed_own : (number : ℕ) (w : Mark) (m : Message) (s first : Own) (running : Option Operation)
    (seen set : List Observation) (r : Option Notified) (report : Option Reported) (own : Own) → first ≡ s
    → running ≡ dropped number first.running
    → seen ≡ setting number (watching w) first.observations → set ≡ with_rest number r seen → r ≡ first_rest s.sizes m
    → report ≡ first_value number s.sizes m
    → own ≡ reporting (record {
      own = record first { running = running; observations = set };
      report = report;
      deed =
          Rests;
    }) → own ≡ renewing number w m s
renewed_own number w m s first running seen set r report own same run watch rest r_is report_is own_is =
    let os : set ≡ setting number (λ p. record p { watch = w; rest = first_rest s.sizes m }) first.observations =
    rest ∙ (ap (with_rest number r) watch ∙ (both_set number w r first.observations
    ∙ ap (λ q. setting number (λ p. record p { watch = w; rest = q }) first.observations) r_is)) in
    own_is
    ∙ (ap (λ o. reporting (record {
      own = record first { running = o; observations = set };
      report = report;
      deed =
          Rests;
    })) run
    ∙ (ap (λ l. reporting (record {
      own = record first { running = dropped number first.running; observations = l };
      report = report;
      deed = Rests;
    })) os
    ∙ (ap (λ q. reporting (record {
      own = record first {
        running = dropped number first.running;
        observations =
            setting number (λ p. record p { watch = w; rest = first_rest s.sizes m }) first.observations;
      };
      report = q;
      deed =
          Rests;
    })) report_is
    ∙ ap (λ (o : Own). reporting (record {
      own =
          record o {
            running = dropped number o.running;
            observations =
                setting number (λ p. record p { watch = w; rest = first_rest s.sizes m }) o.observations;
          };
      report =
          first_value number s.sizes m;
      deed = Rests;
    })) same)))

-- by what it is

pub stays_happens : (x : X.State) (s : Own) (m word : ℕ) → Happens x (stays s) m word None (left s x)
stays_happens x s m word = rests_happens x (stays s) m word s refl
    (ap (λ rs. record s { reports = rs }) (sym (append-nil s.reports)))

module _ (x : X.State) (s : Own) (at word : ℕ) (m : Message) where
  pub noticed_none : observation_with m.token s.observations ≡ None → Happens x (noticed s at m) at word None (left s x)
  noticed_none none = subst (λ o. Happens x (noticed_by o s at m) at word None (left s x)) (sym none)
      (stays_happens x s at word)

  module _ (o : Observation) (found : observation_with m.token s.observations ≡ Some o) (told : Option ℕ)
      (told_is : told ≡ cond (is_notification m) (Some (sequence_in m)) None) where
    pub noticed_over : (y : X.State) (own : Own) → told ≡ None → IsDone x (is_over o.number (Ended m.code) s).deed y
        → own ≡ reporting (is_over o.number (Ended m.code) s) → Happens x (noticed s at m) at word None (left own y)
    noticed_over y own none done own_is =
        subst (λ o. Happens x (noticed_by o s at m) at word None (left own y)) (sym found)
        (subst (λ b. Happens x (cond (not b) (is_over o.number (Ended m.code) s)
        (cond (is_newer o.watch.mark (sequence_in m) at) (renewed o s at m) (stays (passed o s at m)))) at word None
        (left own y))
        (sym (no_notification (is_notification m) (sequence_in m) (sym none ∙ told_is)))
        (deed_happens x y (is_over o.number (Ended m.code) s) at word own
        (over_quiet o.number (Ended m.code) s) done own_is))

    pub noticed_old : (k : ℕ) (own : Own) → told ≡ Some k → is_newer o.watch.mark (sequence_in m) at ≡ false
        → own ≡ passed o s at m → Happens x (noticed s at m) at word None (left own x)
    noticed_old k own some old own_is =
        subst (λ o. Happens x (noticed_by o s at m) at word None (left own x)) (sym found)
        (subst (λ b. Happens x (cond (not b) (is_over o.number (Ended m.code) s)
        (cond (is_newer o.watch.mark (sequence_in m) at) (renewed o s at m) (stays (passed o s at m)))) at word None
        (left own x))
        (sym (a_notification (is_notification m) (sequence_in m) k (sym some ∙ told_is)).0)
        (subst (λ b. Happens x (cond b (renewed o s at m) (stays (passed o s at m))) at word None (left own x))
        (sym old)
        (subst (λ p. Happens x (stays (passed o s at m)) at word None (left p x)) (sym own_is)
        (stays_happens x (passed o s at m) at word))))

    pub noticed_new : (k : ℕ) (own : Own) → told ≡ Some k → is_newer o.watch.mark (sequence_in m) at ≡ true
        → own ≡ reporting (renewed o s at m) → Happens x (noticed s at m) at word None (left own x)
    noticed_new k own some new own_is =
        subst (λ o. Happens x (noticed_by o s at m) at word None (left own x)) (sym found)
        (subst (λ b. Happens x (cond (not b) (is_over o.number (Ended m.code) s)
        (cond (is_newer o.watch.mark (sequence_in m) at) (renewed o s at m) (stays (passed o s at m)))) at word None
        (left own x))
        (sym (a_notification (is_notification m) (sequence_in m) k (sym some ∙ told_is)).0)
        (subst (λ b. Happens x (cond b (renewed o s at m) (stays (passed o s at m))) at word None (left own x))
        (sym new)
        (rests_happens x (renewed o s at m) at word own refl own_is)))

    -- what was told of it
    pub told_happens : {X Y : Type 0} (k : ℕ) (own : Own) (r : Result X Y) → told ≡ Some k
        → in_observations o.number s.observations ≤ 1
        → (is_newer o.watch.mark k at ≡ false → OnOk r (own ≡ watching_own o.number (record o.watch { clock = at }) s))
        → (is_newer o.watch.mark k at ≡ true → OnOk r (own ≡ renewing o.number (arrived o.watch k at true) m s))
        → OnOk r (Happens x (noticed s at m) at word None (left own x))
    told_happens k own r some one old new = by (is_newer o.watch.mark k at) refl
      where
        number : k ≡ sequence_in m
        number = (a_notification (is_notification m) (sequence_in m) k (sym some ∙ told_is)).1

        seen : watching_own o.number (record o.watch { clock = at }) s ≡ passed o s at m
        seen = ap (λ l. record s { observations = l })
            (one_setting m.token (watching (record o.watch { clock = at }))
            (λ p. record p { watch = arrived p.watch (sequence_in m) at false }) o s.observations refl found one)

        by : (b : Bool) → is_newer o.watch.mark k at ≡ b → OnOk r (Happens x (noticed s at m) at word None (left own x))
        by false is = on_ok r (λ h. noticed_old k own some (ap (λ n. is_newer o.watch.mark n at) (sym number) ∙ is)
            (h ∙ seen)) (old is)
        by true is = on_ok r (λ h. noticed_new k own some (ap (λ n. is_newer o.watch.mark n at) (sym number) ∙ is)
            (h ∙ ap (λ n. renewing o.number (arrived o.watch n at true) m s) number)) (new is)
