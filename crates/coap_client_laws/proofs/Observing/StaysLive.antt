-- A live observation keeps its number, its path and its token until it is over.
use Rattle.std.proofs.Common.{◌≡◌, ◌≤◌, inl, inr, ℕ, Bool, true, false, cond, Option, Some, None, List, ◌∷◌, []}
use Rattle.std.proofs.Common.{refl, ap, sym, subst, ◌∙◌, Ok, Err, arith}
use Rattle.std.specs.Prelude.{◌==◌}
use Rattle.coap_types.specs.declared.endpoint.Endpoint.{Endpoint}
use Rattle.coap_layer.specs.declared.setup.Setup.{Setup}
use Rattle.coap_codec.specs.Message.{Message}
use Rattle.coap_block.specs.Sizes.{Sizes}
use Rattle.coap_client.specs.Trace.{is_value, Report, Reported, Call, Calls, Observes, Cancels, Forgets, Feeds, Ticks}
use Rattle.coap_client.specs.Trace.{NextOut, NextReport, Asked}
use Rattle.coap_client.specs.Own.{Registering, Observation}
use Rattle.coap_client.specs.Observations.{observation_of}
use Rattle.coap_client.specs.Effects.{of}
use Rattle.coap_client.specs.Steps.{reports}
use Rattle.coap_client.specs.Law.{ClientLaw, own_of}
use Rattle.coap_client_laws.specs.Follows.Gives.{forgotten}
use Rattle.coap_client_laws.specs.Follows.Live.{IsLive, StayLive}
use Rattle.coap_client.specs.Places.{hit, in_running, in_observations, final_of, forgotten_by}
use Rattle.coap_client_laws.proofs.Observing.Notified.{live_in, most}
use Rattle.coap_client_laws.proofs.Observing.ObservationSources.{In, in_count}
use Rattle.coap_client_laws.proofs.Observing.OfObservations.{of_number}
use Rattle.coap_client_laws.proofs.Places.LiveOrGone.{stays_live}
use Rattle.coap_client.proofs.Facts.Places.PlaceLemmas.{same_number, hit_self}
use Rattle.coap_client_laws.proofs.Sending.LiveTokens.{AllLive, live_without, live_turned}
use Rattle.coap_client.proofs.Facts.Turning.Leading.{client_back}
use Rattle.coap_client_laws.proofs.Turning.Turns.{Turned, fed_turned, ticked_turned}

-- one that is found by its number is there, and the other way round

pub found_in : (k : ℕ) (os : List Observation) (o : Observation) → observation_of k os ≡ Some o
    → In o os × (o.number ≡ k)
found_in k [] o h = absurd (cc h)
found_in k (p ∷ os) o h = by (p.number == k) refl h (found_in k os o)
  where
    by : (b : Bool) → (p.number == k) ≡ b → cond b (Some p) (observation_of k os) ≡ Some o
        → (observation_of k os ≡ Some o → In o os × (o.number ≡ k)) → In o (p ∷ os) × (o.number ≡ k)
    by true e h ih = let same : p ≡ o = cc h in (
      inl same,
      ap (λ (x : Observation). x.number) (sym same) ∙ same_number p.number k e,
    )
    by false e h ih = let r = ih h in (inr r.0, r.1)

pub found_there : (k : ℕ) (os : List Observation) → 1 ≤ in_observations k os
    → (o : Observation) × (observation_of k os ≡ Some o)
found_there k [] h = absurd (omega (arith, h))
found_there k (o ∷ os) h = by (o.number == k) refl (found_there k os)
  where
    by : (b : Bool) → (o.number == k) ≡ b
        → (1 ≤ in_observations k os → (p : Observation) × (observation_of k os ≡ Some p))
        → (p : Observation) × (cond b (Some o) (observation_of k os) ≡ Some p)
    by true e ih = (o, refl)
    by false e ih = let a : hit o.number k ≡ 0 = ap (λ b. cond b 1 0) e in ih (omega (arith, a, h))

-- where no other has its number, it is the one
pub one_found : (k : ℕ) (os : List Observation) (o p : Observation) → in_observations k os ≤ 1
    → observation_of k os ≡ Some o → In p os → p.number ≡ k → p ≡ o
one_found k os o p once found there number =
    let here = of_number os p there (subst (λ i. in_observations i os ≤ 1) (sym number) once) in
    let both : Some p ≡ Some o = sym here ∙ (ap (λ i. observation_of i os) number ∙ found) in
    cc both

pub live_all : (P : ℕ → List (List ℕ) → List ℕ → Type 0) (os : List Observation)
    → ((o : Observation) → In o os → P o.number o.path o.token) → AllLive P os
live_all P [] f = tt
live_all P (o ∷ os) f = (f o (inl refl), live_all P os (λ p there. f p (inr there)))

-- it has no last report, and is not forgotten

abbrev one_if : Bool → ℕ
one_if b = cond b 1 0

abbrev unless : Bool → ℕ → ℕ
unless v n = cond v 0 n

unless_zero : (v : Bool) → unless v 0 ≡ 0
unless_zero true = refl
unless_zero false = refl

pub none_final : (number : ℕ) (made : Option Reported)
    → ((report : Report) → made ≡ of number report → is_value report ≡ true) → final_of number made ≡ 0
none_final number None values = refl
none_final number (Some x) values = by (x.number == number) refl
  where
    by : (b : Bool) → (x.number == number) ≡ b → unless (is_value x.report) (one_if b) ≡ 0
    by true e =
        let is : Some x ≡ of number x.report = ap (λ i. of i x.report) (same_number x.number number e) in
        ap (λ v. unless v 1) (values x.report is)
    by false e = unless_zero (is_value x.report)

pub none_forgotten : (number : ℕ) (c : Call) → (forgotten c ≡ Some number → ⊥) → forgotten_by number c ≡ 0
none_forgotten number (Forgets k was true) apart = by (k == number) refl
  where
    by : (b : Bool) → (k == number) ≡ b → one_if b ≡ 0
    by true e = absurd (apart (ap (λ i. Some i) (same_number k number e)))
    by false e = refl
none_forgotten number _ apart = refl

module _ (sizes : Sizes) (P : ℕ → List (List ℕ) → List ℕ → Type 0) where
  abbrev New : List Call → Type 0
  New t = (n : ℕ) (path : List (List ℕ)) (m : Message) → (own_of sizes t).running ≡ Some (Registering n path)
      → P n path m.token

  turned_live : (t : List Call) (c : Call) → Turned sizes t c → New t → AllLive P (own_of sizes t).observations
      → AllLive P (own_of sizes (c ∷ t)).observations
  turned_live t c k new h = live_turned P sizes t c k h (λ n path m hears runs. new n path m runs)

  pub next_live : (t : List Call) (c : Call) → New t → AllLive P (own_of sizes t).observations
      → AllLive P (own_of sizes (c ∷ t)).observations
  next_live t (Calls now r (Ok n)) new h = h
  next_live t (Observes now path (Ok n)) new h = h
  next_live t (Cancels now k None) new h = h
  next_live t (Forgets k was true) new h = live_without P k (own_of sizes t).observations h
  next_live t (Feeds now from bytes w up settled event sent token was) new h =
      turned_live t (Feeds now from bytes w up settled event sent token was)
      (fed_turned sizes t now from bytes w up settled event sent token was) new h
  next_live t (Ticks now w below turn sent token was answer) new h =
      turned_live t (Ticks now w below turn sent token was answer)
      (ticked_turned sizes t now w below turn sent token was answer) new h
  next_live t _ new h = h

module _ (server : Endpoint) (sizes : Sizes) (setup : Setup) where
  -- no other observation has its number, and no registration of that runs

  pub once_there : (t : List Call) → ClientLaw server sizes setup t → (k : ℕ)
      → in_observations k (own_of sizes t).observations ≤ 1
  once_there t law k = let a = most server sizes setup t law k in omega (arith, a)

  pub no_registration : (t : List Call) → ClientLaw server sizes setup t → (k : ℕ) (o : Observation)
      → observation_of k (own_of sizes t).observations ≡ Some o → (path : List (List ℕ))
      → (own_of sizes t).running ≡ Some (Registering k path) → ⊥
  no_registration t law k o found path runs =
      let a = most server sizes setup t law k in
      let f = found_in k (own_of sizes t).observations o found in
      let b = subst (λ i. 1 ≤ in_observations i (own_of sizes t).observations) f.1
      (in_count o (own_of sizes t).observations f.0) in
      let d = ap (in_running k) runs in
      let e = hit_self k in
      absurd (omega (arith, a, b, d, e))

  module _ (number : ℕ) (path : List (List ℕ)) (token : List ℕ) where
    abbrev Its : ℕ → List (List ℕ) → List ℕ → Type 0
    Its n p key = n ≡ number → (p ≡ path) × (key ≡ token)

    stays_here : (t : List Call) (c : Call) → ClientLaw server sizes setup t → IsLive sizes number path token t
        → (forgotten c ≡ Some number → ⊥)
        → ((report : Report) → reports (own_of sizes t) c ≡ of number report → is_value report ≡ true)
        → IsLive sizes number path token (c ∷ t)
    stays_here t c law live apart values =
        let os : List Observation = (own_of sizes t).observations in
        let o = live.observation in
        let f = found_in number os o live.found in
        let its : AllLive Its os = live_all Its os
        (λ p there is. (let same : p ≡ o = one_found number os o p (once_there t law number) live.found there is in (
          ap (λ (x : Observation). x.path) same ∙ live.path_is,
          ap (λ (x : Observation). x.token) same ∙ live.token_is,
        ))) in
        let new : New sizes Its t = λ n p m runs is. absurd
        (no_registration t law number o live.found p (runs ∙ ap (λ i. Some (Registering i p)) is)) in
        let after : AllLive Its (own_of sizes (c ∷ t)).observations = next_live sizes Its t c new its in
        let a = stays_live sizes t c number (subst (λ i. 1 ≤ in_observations i os) f.1 (in_count o os f.0)) in
        let b = none_final number (reports (own_of sizes t) c) values in
        let d = none_forgotten number c apart in
        let p = found_there number (own_of sizes (c ∷ t)).observations (omega (arith, a, b, d)) in
        let g = found_in number (own_of sizes (c ∷ t)).observations p.0 p.1 in
        let same = live_in Its (own_of sizes (c ∷ t)).observations p.0 after g.0 g.1 in
        record { observation = p.0; found = p.1; path_is = same.0; token_is = same.1 }

  pub stay_live : (t : List Call) → ClientLaw server sizes setup t → StayLive sizes t
  stay_live [] law = tt
  stay_live (c ∷ t) law =
      let past = client_back server sizes setup (c ∷ []) t law in
      (λ number path token live apart values. stays_here number path token t c past live apart values, stay_live t past)
