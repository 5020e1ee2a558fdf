-- Behind its last report, its forget or the sending of its cancel no value of an observation is reported.
use Rattle.std.proofs.Common.{◌≡◌, ◌≤◌, inl, inr, ℕ, max, Bool, true, false, cond, not, Option, Some, None}
use Rattle.std.proofs.Common.{List, ◌∷◌, ◌++◌, [], refl, ap, sym, subst, ◌∙◌, drop, Ok, Err, arith}
use Rattle.std.specs.Prelude.{◌==◌, filter, slice_get, option_to_list}
use Rattle.coap_types.specs.declared.endpoint.Endpoint.{Endpoint}
use Rattle.coap_layer.specs.declared.setup.Setup.{Setup}
use Rattle.coap_block.specs.Sizes.{Sizes}
use Rattle.coap_exchange.specs.declared.asker.Event.TheVariants as event_of
use Rattle.coap_exchange.specs.AskerTrace as E
use Rattle.coap_client.specs.Trace.{Value, Reported, Call, Calls, Observes, Cancels, Forgets, Feeds}
use Rattle.coap_client.specs.Trace.{Ticks, NextOut, NextReport, Asked}
use Rattle.coap_client.specs.Own.{Registering, Fetching, Cancelling, Own}
use Rattle.coap_client.specs.Observations.{observation_with}
use Rattle.coap_client.specs.Effects.{Effect}
use Rattle.coap_client.specs.Events.{happened, passes}
use Rattle.coap_client.specs.Deeds.{at, close, deeds}
use Rattle.coap_client.specs.Steps.{lower, reports}
use Rattle.coap_client.specs.Law.{ClientLaw, own_of, lower_of}
use Rattle.coap_client.specs.Places.{hit, places, gone, forgotten_by}
use Rattle.coap_client_laws.specs.Follows.Gives.{forgotten}
use Rattle.coap_client_laws.specs.Follows.Answered.{HasReport}
use Rattle.coap_client_laws.specs.Follows.Newer.{Newly, notifies}
use Rattle.coap_client.proofs.Facts.Places.PlaceLemmas.{same_number, number_self, hit_self}
use Rattle.coap_client.proofs.Facts.Turning.ExchangeCame.{came}
use Rattle.coap_client.proofs.Facts.Places.Once.{law_back, law_front, done_right, beneath, Known, known, sound_of}
use Rattle.coap_client.proofs.Facts.Places.Once.{from_place}
use Rattle.coap_client_laws.proofs.Places.ReportedOnce.{reported_once}
use Rattle.coap_client.proofs.Facts.Places.NumberSteps.{both_one}
use Rattle.coap_client.proofs.Facts.Uploading.Holding.{steadied, happened_steady, passes_steady}
use Rattle.coap_client.proofs.Facts.Turning.Leading.{client_back}
use Rattle.coap_client_laws.specs.Follows.Notified.{is_newly_of}
use Rattle.coap_client_laws.specs.Follows.Rising.{ShowsValue}
use Rattle.coap_client_laws.specs.Follows.Ended.{WasForgotten, WasCancelled, AreOver}
use Rattle.coap_client_laws.proofs.Sending.Tokens.{cancel_runs}
use Rattle.coap_client.proofs.Facts.Places.PlaceEvents.{apart_of}
use Rattle.coap_client_laws.proofs.Observing.Notified.{registers_as, renews_as}
use Rattle.coap_client_laws.proofs.Observing.Values.{shows_first}
use Rattle.coap_client_laws.proofs.Observing.ValueParts.{value_in}

-- reports of other numbers

abbrev NoneOf : ℕ → List Reported → Type 0
NoneOf k [] = Unit {0}
NoneOf k (r ∷ rs) = (r.number ≡ k → ⊥) × NoneOf k rs

none_more : (k : ℕ) (rs : List Reported) (o : Option Reported) → NoneOf k rs
    → ((r : Reported) → o ≡ Some r → r.number ≡ k → ⊥) → NoneOf k (rs ++ option_to_list o)
none_more k [] None h f = tt
none_more k [] (Some r) h f = (f r refl, tt)
none_more k (r ∷ rs) o h f = (h.0, none_more k rs o h.1 f)

none_behind : (k : ℕ) (rs : List Reported) → NoneOf k rs → NoneOf k (drop 1 rs)
none_behind k [] h = tt
none_behind k (r ∷ rs) h = h.1

none_filtered : (j k : ℕ) (rs : List Reported) → NoneOf k rs
    → NoneOf k (filter (λ (r : Reported). not (r.number == j)) rs)
none_filtered j k [] h = tt
none_filtered j k (r ∷ rs) h = by (r.number == j) (none_filtered j k rs h.1)
  where
    by : (b : Bool) → NoneOf k (filter (λ (x : Reported). not (x.number == j)) rs)
        → NoneOf k (cond (not b) (r ∷ filter (λ (x : Reported). not (x.number == j)) rs)
        (filter (λ (x : Reported). not (x.number == j)) rs))
    by true ih = ih
    by false ih = (h.0, ih)

none_left : (k : ℕ) (rs : List Reported) → NoneOf k (filter (λ (r : Reported). not (r.number == k)) rs)
none_left k [] = tt
none_left k (r ∷ rs) = by (r.number == k) refl (none_left k rs)
  where
    by : (b : Bool) → (r.number == k) ≡ b → NoneOf k (filter (λ (x : Reported). not (x.number == k)) rs)
        → NoneOf k (cond (not b) (r ∷ filter (λ (x : Reported). not (x.number == k)) rs)
        (filter (λ (x : Reported). not (x.number == k)) rs))
    by true e ih = ih
    by false e ih = (λ n. (let a : (r.number == k) ≡ true = ap (λ i. i == k) n ∙ number_self k in cc (e, a)), ih)

none_first : (k : ℕ) (rs : List Reported) (r : Reported) → NoneOf k rs → Some r ≡ slice_get rs 0 → r.number ≡ k → ⊥
none_first k [] r h is n = cc is
none_first k (x ∷ rs) r h is n = let e : r ≡ x = cc is in h.0 (sym (ap (λ (y : Reported). y.number) e) ∙ n)

module _ (sizes : Sizes) where
  -- what was forgotten is gone
  forgets_one : (k : ℕ) (c : Call) → forgotten c ≡ Some k → forgotten_by k c ≡ 1
  forgets_one k (Forgets n was true) h = let e : n ≡ k = cc h in ap (λ i. hit i k) e ∙ hit_self k
  forgets_one k _ h = absurd (cc h)

  forgotten_gone : (k : ℕ) (t : List Call) → WasForgotten k t → 1 ≤ gone sizes k t
  forgotten_gone k [] h = absurd h
  forgotten_gone k (c ∷ t) (inl h) = let a = forgets_one k c h in omega (arith, a)
  forgotten_gone k (c ∷ t) (inr h) = let a = forgotten_gone k t h in omega (arith, a)

  module _ (server : Endpoint) (setup : Setup) where
    under : (t : List Call) (c : Call) → ClientLaw server sizes setup (c ∷ t) → Known server sizes setup t
    under t c law = known server sizes setup t law.rows.1
        (law_back server setup (lower (own_of sizes t) c) (lower_of sizes t) law.exchanges.rows)

    -- nothing is reported of what is gone
    none_of_gone : (t : List Call) (c : Call) → ClientLaw server sizes setup (c ∷ t) → (r : Reported)
        → 1 ≤ gone sizes r.number t → reports (own_of sizes t) c ≡ Some r → ⊥
    none_of_gone t c law r over is =
        let k = under t c law in
        both_one (places r.number (own_of sizes t)) (gone sizes r.number t) _ (k.one r.number)
        (from_place server sizes setup t c k law.exchanges.rows r is) over

    none_forgotten : (t : List Call) (c : Call) → ClientLaw server sizes setup (c ∷ t) → (r : Reported)
        → WasForgotten r.number t → reports (own_of sizes t) c ≡ Some r → ⊥
    none_forgotten t c law r h is = none_of_gone t c law r (forgotten_gone r.number t h) is

    -- nothing of it waits to be given
    none_waits : (t : List Call) → ClientLaw server sizes setup t → (k : ℕ) → WasForgotten k t
        → NoneOf k (own_of sizes t).reports
    none_waits [] law k h = absurd h
    none_waits (c ∷ t) law k (inl h) = by c h
      where
        by : (b : Call) → forgotten b ≡ Some k → NoneOf k (own_of sizes (b ∷ t)).reports
        by (Forgets n was true) h = let e : n ≡ k =
            cc h in subst (λ i. NoneOf k (own_of sizes (Forgets i was true ∷ t)).reports) (sym e)
            (none_left k (own_of sizes t).reports)
        by (Forgets n was false) h = absurd (cc h)
        by (Calls now r answer) h = absurd (cc h)
        by (Observes now path answer) h = absurd (cc h)
        by (Cancels now n answer) h = absurd (cc h)
        by (Feeds now from bytes w up settled event sent token was) h = absurd (cc h)
        by (Ticks now w below turn sent token was answer) h = absurd (cc h)
        by (NextOut answer) h = absurd (cc h)
        by (NextReport answer) h = absurd (cc h)
        by (Asked answer) h = absurd (cc h)
    none_waits (c ∷ t) law k (inr h) = by c (λ r is n. none_forgotten t c law r
        (subst (λ i. WasForgotten i t) (sym n) h) is) (none_waits t (client_back server sizes setup (c ∷ []) t law) k h)
      where
        by : (b : Call) → ((r : Reported) → reports (own_of sizes t) b ≡ Some r → r.number ≡ k → ⊥)
            → NoneOf k (own_of sizes t).reports → NoneOf k (own_of sizes (b ∷ t)).reports
        by (Calls now r (Ok n)) f ih = ih
        by (Calls now r (Err why)) f ih = ih
        by (Observes now path (Ok n)) f ih = ih
        by (Observes now path (Err why)) f ih = ih
        by (Cancels now n None) f ih = ih
        by (Cancels now n (Some why)) f ih = ih
        by (Forgets n was true) f ih = none_filtered n k (own_of sizes t).reports ih
        by (Forgets n was false) f ih = ih
        by (NextOut answer) f ih = ih
        by (NextReport answer) f ih = none_behind k (own_of sizes t).reports ih
        by (Asked answer) f ih = ih
        by (Feeds now from bytes w up settled event sent token was) f ih =
            let s : Own = own_of sizes t in
            let m : ℕ = max s.clock now in
            let e : Effect = happened (at now s) m event in
            let z = steadied (at now s) m e token e.deed refl (happened_steady (at now s) m event) in
            none_more k (close m e token).own.reports (close m e token).report (subst (NoneOf k) (sym z.reports) ih) f
        by (Ticks now w below turn sent token was answer) f ih =
            let s : Own = own_of sizes t in
            let m : ℕ = max s.clock now in
            let e : Effect = passes (at now s) m turn in
            let z = steadied (at now s) m e token e.deed refl (passes_steady (at now s) m turn) in
            none_more k (close m e token).own.reports (close m e token).report (subst (NoneOf k) (sym z.reports) ih) f

    none_given : (t : List Call) (c : Call) → ClientLaw server sizes setup (c ∷ t) → (r : Reported)
        → WasForgotten r.number t → c ≡ NextReport (Some r) → ⊥
    none_given t c law r h is =
        let right = subst (λ b. ClientLaw server sizes setup (b ∷ t)) is law in
        none_first r.number (own_of sizes t).reports r
        (none_waits t (client_back server sizes setup (c ∷ []) t law) r.number h) right.rows.0 refl

    -- no notification of an observation is taken while its cancel runs: it would have the token of that
    none_noted : (t : List Call) (c : Call) → ClientLaw server sizes setup (c ∷ t) → (k : ℕ) (n : Newly)
        → (own_of sizes t).running ≡ Some (Cancelling k) → notifies (own_of sizes t) c ≡ Some n → n.number ≡ k → ⊥
    none_noted t (Feeds now from bytes w up settled (Some (event_of.Answer m)) sent token was) law k n runs is number =
        let r = registers_as (own_of sizes t).running (max (own_of sizes t).clock now) m n is in let a : Some
        (Registering r.number r.path) ≡ Some (Cancelling k) = sym r.runs ∙ runs in cc a
    none_noted t (Feeds now from bytes w up settled (Some (event_of.Notice m)) sent token was) law k n runs is number =
        let c : Call = Feeds now from bytes w up settled (Some (event_of.Notice m)) sent token was in
        let s : Own = own_of sizes t in
        let z : ℕ = max s.clock now in
        let e : Effect = happened (at now s) z (Some (event_of.Notice m)) in
        let input : E.Call = E.Receive z from bytes up settled (Some (event_of.Notice m)) in
        let later : List E.Call = deeds (close z e token).deed (close z e token).own z w sent token was in
        let first : List E.Call = deeds e.deed e.own z w sent token was in
        let right = done_right (beneath server sizes setup t) later first input
        (law_front server setup (later ++ (first ++ input ∷ [])) (lower_of sizes t) law.exchanges.rows) in
        let apart = (came (beneath server sizes setup t) from z up (Some (event_of.Notice m)) right.0).0 in
        let known_so = under t c law in
        let r = renews_as (observation_with m.token s.observations) z m n is in
        let same : k ≡ r.observation.number = sym number ∙ ap (λ (x : Newly). x.number) r.is in
        let a : (k == r.observation.number) ≡ false =
        apart_of s (beneath server sizes setup t).running
        (sound_of server sizes setup t known_so) known_so.linked z m apart r.observation r.found k runs in
        let b : (k == r.observation.number) ≡ true = ap (λ i. k == i) (sym same) ∙ number_self k in
        cc (a, b)
    none_noted t _ law k n runs is number = cc is

    came_one : (k : ℕ) (o : Option Newly) → is_newly_of k o ≡ true → (n : Newly) × (o ≡ Some n) × (n.number ≡ k)
    came_one k None h = absurd (cc h)
    came_one k (Some n) h = (n, refl, same_number n.number k h)

    none_cancelled : (t : List Call) (c : Call) → ClientLaw server sizes setup (c ∷ t) → (k : ℕ)
        → WasCancelled sizes k t
        → ShowsValue sizes k t c → ⊥
    none_cancelled t c law k h shows = elim (cancel_runs sizes server setup t h.sending k h.sent h.cancels) [
      | inl runs ↦ elim (shows_first sizes server setup t c law k shows) [
        | inl e ↦ (let n = came_one k (notifies (own_of sizes t) c) e in none_noted t c law k n.0 runs n.1 n.2)
        | inr z ↦ (let a : Some (Fetching k) ≡ Some (Cancelling k) = sym z.2 ∙ runs in cc a)
      ]
      | inr over ↦ (let v = value_in (reports (own_of sizes t) c) k shows in none_of_gone t c law
          (record { number = k; report = Value v.0 v.1 v.2 v.3 }) over v.4)
    ]

    none_ended : (t : List Call) (c : Call) → ClientLaw server sizes setup (c ∷ t) → (k : ℕ)
        → HasReport server sizes setup k t → ShowsValue sizes k t c → ⊥
    none_ended t c law k h shows = let v = value_in
        (reports (own_of sizes t) c) k shows in (reported_once server sizes setup (c ∷ t) law).0
        (record { number = k; report = Value v.0 v.1 v.2 v.3 }) v.4 h

    pub are_over : (t : List Call) → ClientLaw server sizes setup t → AreOver sizes server setup t
    are_over [] law = tt
    are_over (c ∷ t) law = (
      record {
        ended = none_ended t c law;
        cancelled = none_cancelled t c law;
        forgotten = none_forgotten t c law;
        none_given = none_given t c law;
      },
      are_over t (client_back server sizes setup (c ∷ []) t law),
    )
