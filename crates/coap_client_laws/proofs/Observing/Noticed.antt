-- What a client makes of the answer to a registration, and of what it notes of a live observation.
use Rattle.std.proofs.Common.{◌≡◌, ◌≤◌, ◌⊎◌, inl, inr, ℕ, max, Bool, true, false, cond, not, Option, Some, None}
use Rattle.std.proofs.Common.{List, ◌∷◌, ◌++◌, [], refl, ap, sym, subst, ◌∙◌, Result, arith, length}
use Rattle.std.specs.Prelude.{◌==◌}
use Rattle.coap_types.specs.declared.endpoint.Endpoint.{Endpoint}
use Rattle.coap_codec.specs.Message.{Message}
use Rattle.coap_layer.specs.Trace as L
use Rattle.coap_layer.specs.declared.setup.Setup.{Setup}
use Rattle.coap_block.specs.Sizes.{Sizes}
use Rattle.coap_exchange.specs.declared.asker.AskRefusal.{AskRefusal}
use Rattle.coap_exchange.specs.declared.asker.Event.{Event}
use Rattle.coap_exchange.specs.declared.asker.Event.TheVariants as event_of
use Rattle.coap_observe.specs.Newer.{is_newer}
use Rattle.coap_observe.proofs.Facts.Newer.{newer_is_decided}
use Rattle.coap_client.specs.Trace.{Value, Ended, Reported, Call, Feeds}
use Rattle.coap_client.specs.Own.{Registering, Observation, Own}
use Rattle.coap_client.specs.Observations.{observation_of, observation_with}
use Rattle.coap_client.specs.Responses.{is_notification, sequence_in, tag_in, format_in}
use Rattle.coap_client.specs.Effects.{Asks, Effect, stays, ends, of}
use Rattle.coap_client.specs.Observing.{begun, first_value, is_over, renewed, passed, noticed_by}
use Rattle.coap_client.specs.Events.{answered, happened, closed}
use Rattle.coap_client.specs.Deeds.{at}
use Rattle.coap_client.specs.Steps.{reports}
use Rattle.coap_client.specs.Law.{ClientLaw, own_of}
use Rattle.coap_client_laws.specs.Follows.Live.{IsLive}
use Rattle.coap_client_laws.specs.Follows.Newer.{Newly, newly, registers, renews, notifies}
use Rattle.coap_client_laws.specs.Follows.Notified.{notes, newest}
use Rattle.coap_client_laws.specs.Follows.Noticed.{IsAllOf, IsTakenOf, IsNotNewer, IsNoticed, AreNoticed, IsAnswered}
use Rattle.coap_client_laws.specs.Follows.Noticed.{RegistrationsAreAnswered, AreShownAtOnce}
use Rattle.coap_client.specs.Places.{hit, in_running, in_observations}
use Rattle.coap_client.specs.Sendings.{hears}
use Rattle.coap_client_laws.proofs.Queueing.Closing.{Closing, quiet, goes_out, is_refused}
use Rattle.coap_client_laws.proofs.Observing.AllOf.{all_shown}
use Rattle.coap_client_laws.proofs.Observing.Notified.{registers_as, renews_as, registered_to}
use Rattle.coap_client_laws.proofs.Observing.Notified.{registered_effect, renewed_effect, has_newest, most}
use Rattle.coap_client_laws.proofs.Observing.ObservationSources.{In}
use Rattle.coap_client_laws.proofs.Observing.OneToken.{found_with}
use Rattle.coap_client_laws.proofs.Observing.StaysLive.{found_in}
use Rattle.coap_client.proofs.Facts.Places.PlaceLemmas.{number_self, hit_self}
use Rattle.coap_client_laws.proofs.Sending.OfCalls.{size_is}
use Rattle.coap_client.proofs.Facts.Turning.Leading.{client_back}
use Rattle.coap_client.proofs.Facts.Turning.Moves.{releases_none}
use Rattle.coap_client_laws.proofs.Turning.Turns.{closing}

-- where nothing is asked for, the report is that of the effect
quiet_report : (now : ℕ) (e : Effect) (token : Result (List ℕ) AskRefusal) → ((op : _) → e.deed ≡ Asks op → ⊥)
    → (closed now e e.deed token).report ≡ e.report
quiet_report now e token none = by (closing now e token)
  where
    by : Closing now e token → (closed now e e.deed token).report ≡ e.report
    by (quiet q sends own_same report_same) = report_same
    by (goes_out op key asks given sends_it own_same report_same) = absurd (none op asks)
    by (is_refused op why asks given sends all) = absurd (none op asks)

-- an observation behind others, of which none has its number
found_last : (k : ℕ) (os : List Observation) (o : Observation) → in_observations k os ≡ 0 → o.number ≡ k
    → observation_of k (os ++ o ∷ []) ≡ Some o
found_last k [] o none number =
    ap (λ b. cond b (Some o) None) (ap (λ i. i == k) number ∙ number_self k)
found_last k (p ∷ os) o none number = by (p.number == k) refl (found_last k os o)
  where
    by : (b : Bool) → (p.number == k) ≡ b
        → (in_observations k os ≡ 0 → o.number ≡ k → observation_of k (os ++ o ∷ []) ≡ Some o)
        → cond b (Some p) (observation_of k (os ++ o ∷ [])) ≡ Some o
    by true e ih = let a : hit p.number k ≡ 1 = ap (λ b. cond b 1 0) e in absurd (omega (arith, a, none))
    by false e ih = ih (omega (arith, none)) number

module _ (s : Own) (now : ℕ) (m : Message) where
  -- a notification that ends its observation
  ended_effect : (o : Observation) → observation_with m.token s.observations ≡ Some o → is_notification m ≡ false
      → happened s now (Some (event_of.Notice m)) ≡ is_over o.number (Ended m.code) s
  ended_effect o found note =
      ap (λ x. noticed_by x s now m) found
      ∙ ap (λ b. cond (not b) (is_over o.number (Ended m.code) s)
      (cond (is_newer o.watch.mark (sequence_in m) now) (renewed o s now m) (stays (passed o s now m)))) note

  -- a registration that is refused
  refused_effect : (k : ℕ) (path : List (List ℕ)) → s.running ≡ Some (Registering k path) → is_notification m ≡ false
      → happened s now (Some (event_of.Answer m)) ≡ ends (of k (Ended m.code)) s
  refused_effect k path runs note =
      ap (answered s now m) runs
      ∙ ap (λ b. cond b (registered_to s now m k path) (ends (of k (Ended m.code)) s)) note

  -- what is taken
  renews_it : (o : Observation) → observation_with m.token s.observations ≡ Some o → is_notification m ≡ true
      → is_newer o.watch.mark (sequence_in m) now ≡ true
      → renews (observation_with m.token s.observations) now m ≡ newly o.number now m
  renews_it o found note newer =
      ap (λ x. renews x now m) found
      ∙ (ap (λ b. cond b (cond (is_newer o.watch.mark (sequence_in m) now) (newly o.number now m) None) None) note
      ∙ ap (λ b. cond b (newly o.number now m) None) newer)

  registers_it : (k : ℕ) (path : List (List ℕ)) → s.running ≡ Some (Registering k path) → is_notification m ≡ true
      → registers s.running now m ≡ newly k now m
  registers_it k path runs note =
      ap (λ r. registers r now m) runs ∙ ap (λ b. cond b (newly k now m) None) note

module _ (server : Endpoint) (sizes : Sizes) (setup : Setup) where
  module _ (t : List Call) (law : ClientLaw server sizes setup t) (now : ℕ) (from : Endpoint) (bytes : List ℕ) (w : ℕ)
      (up : L.Answer) (settled : Bool) (sent : L.Answer) (token : Result (List ℕ) AskRefusal) (kept : Bool)
      (m : Message) where
    abbrev fed : Event → Call
    fed event = Feeds now from bytes w up settled (Some event) sent token kept

    abbrev s : Own
    s = at now (own_of sizes t)

    abbrev z : ℕ
    z = max (own_of sizes t).clock now

    abbrev made : Effect → Option Reported
    made e = (closed z e e.deed token).report

    noticed_now : (number : ℕ) (path : List (List ℕ)) → IsLive sizes number path m.token t
        → IsNoticed sizes number m t (fed (event_of.Notice m))
    noticed_now number path live = record { ends = ends_so; takes = by (is_newer o.watch.mark (sequence_in m) z) refl }
      where
        o : Observation
        o = live.observation

        found : observation_with m.token (own_of sizes t).observations ≡ Some o
        found = found_with server sizes setup t law number path m.token live

        there : In o (own_of sizes t).observations × (o.number ≡ number)
        there = found_in number (own_of sizes t).observations o live.found

        ends_so : is_notification m ≡ false
            → reports (own_of sizes t) (fed (event_of.Notice m)) ≡ of number (Ended m.code)
        ends_so note =
            ap made (ended_effect s z m o found note)
            ∙ (quiet_report z (is_over o.number (Ended m.code) s) token
            (releases_none (observation_of o.number (own_of sizes t).observations))
            ∙ ap (λ i. of i (Ended m.code)) there.1)

        by : (b : Bool) → is_newer o.watch.mark (sequence_in m) z ≡ b → is_notification m ≡ true
            → IsTakenOf sizes number m t (fed (event_of.Notice m))
            ⊎ IsNotNewer sizes number m t (fed (event_of.Notice m))
        by true newer note = inl (renews_it s z m o found note newer ∙ ap (λ i. newly i z m) there.1)
        by false newer note =
            let h = has_newest server sizes setup t law o there.0 in
            inr (record {
              before = h.newly;
              is_newest = ap (λ i. newest sizes i t) (sym there.1) ∙ h.is;
              older = λ k.
                  (let yes : is_newer (Some h.newly.mark) (sequence_in m) z ≡ true =
                  (newer_is_decided (Some h.newly.mark) (sequence_in m) z).1 k in
                  let no : is_newer (Some h.newly.mark) (sequence_in m) z ≡ false =
                  ap (λ x. is_newer x (sequence_in m) z) (sym h.mark) ∙ newer in
                  cc (yes, no));
            })

    answered_now : (number : ℕ) (path : List (List ℕ)) → (own_of sizes t).running ≡ Some (Registering number path)
        → IsAnswered sizes number path m t (fed (event_of.Answer m))
    answered_now number path runs = record {
      ends = λ note. ap made (refused_effect s z m number path runs note);
      takes = λ note. (registers_it s z m number path runs note, live_so note);
    }
      where
        none : in_observations number (own_of sizes t).observations ≡ 0
        none =
            let a = most server sizes setup t law number in
            let b = ap (in_running number) runs in
            let c = hit_self number in
            omega (arith, a, b, c)

        new : Observation
        new = begun number path s.sizes z m

        live_so : is_notification m ≡ true → IsLive sizes number path m.token (fed (event_of.Answer m) ∷ t)
        live_so note =
            let left : (own_of sizes (fed (event_of.Answer m) ∷ t)).observations ≡ s.observations ++ new ∷ [] =
            ap (λ (x : Effect). (closed z x x.deed token).own.observations)
            (registered_effect s z m number path runs note) in
            record {
              observation = new;
              found = ap (observation_of number) left ∙ found_last number s.observations new none refl;
              path_is = refl;
              token_is = refl;
            }

    abbrev Shown : Event → Newly → Type 0
    Shown event n = reports (own_of sizes t) (fed event) ≡ of n.number
        (Value (sequence_in n.message) (tag_in n.message) (format_in n.message) n.message.payload)

    shown_by : (k : ℕ) → IsAllOf m → length m.payload ≤ sizes.limit → first_value k s.sizes m
        ≡ of k (Value (sequence_in m) (tag_in m) (format_in m) m.payload)
    shown_by k all short = ap (λ x. first_value k x m) (size_is sizes t) ∙ all_shown sizes k m all short

    shown_first : (n : Newly) → notifies (own_of sizes t) (fed (event_of.Answer m)) ≡ Some n → IsAllOf n.message
        → length n.message.payload ≤ sizes.limit → Shown (event_of.Answer m) n
    shown_first n is =
        let r = registers_as (own_of sizes t).running z m n is in
        subst (λ x. IsAllOf x.message → length x.message.payload ≤ sizes.limit → Shown (event_of.Answer m) x)
        (sym r.is)
        (λ all short. ap made (registered_effect s z m r.number r.path r.runs r.note) ∙ shown_by r.number all short)

    shown_later : (n : Newly) → notifies (own_of sizes t) (fed (event_of.Notice m)) ≡ Some n → IsAllOf n.message
        → length n.message.payload ≤ sizes.limit → Shown (event_of.Notice m) n
    shown_later n is =
        let r = renews_as (observation_with m.token (own_of sizes t).observations) z m n is in
        let o = r.observation in
        subst (λ x. IsAllOf x.message → length x.message.payload ≤ sizes.limit → Shown (event_of.Notice m) x)
        (sym r.is)
        (λ all short. ap made (renewed_effect s z m o r.found r.note r.newer) ∙ shown_by o.number all short)

  noticed_here : (t : List Call) (c : Call) → ClientLaw server sizes setup t → (m : Message) (number : ℕ)
      (path : List (List ℕ)) → notes c ≡ Some m → IsLive sizes number path m.token t → IsNoticed sizes number m t c
  noticed_here t (Feeds now from bytes w up settled (Some (event_of.Notice a)) sent token was) law m number path h =
      let same : a ≡ m = cc h in
      subst (λ (x : Message). IsLive sizes number path x.token t → IsNoticed sizes number x t
      (Feeds now from bytes w up settled (Some (event_of.Notice a)) sent token was)) same
      (noticed_now t law now from bytes w up settled sent token was a number path)
  noticed_here t _ law m number path h = absurd (cc h)

  pub are_noticed : (t : List Call) → ClientLaw server sizes setup t → AreNoticed sizes t
  are_noticed [] law = tt
  are_noticed (c ∷ t) law =
      let past = client_back server sizes setup (c ∷ []) t law in (noticed_here t c past, are_noticed t past)

  answered_here : (t : List Call) (c : Call) → ClientLaw server sizes setup t → (m : Message) (number : ℕ)
      (path : List (List ℕ)) → hears c ≡ Some m → (own_of sizes t).running ≡ Some (Registering number path)
      → IsAnswered sizes number path m t c
  answered_here t (Feeds now from bytes w up settled (Some (event_of.Answer a)) sent token was) law m number path h
      runs =
      let same : a ≡ m = cc h in
      subst (λ (x : Message). IsAnswered sizes number path x t
      (Feeds now from bytes w up settled (Some (event_of.Answer a)) sent token was)) same
      (answered_now t law now from bytes w up settled sent token was a number path runs)
  answered_here t _ law m number path h runs = absurd (cc h)

  pub are_answered : (t : List Call) → ClientLaw server sizes setup t → RegistrationsAreAnswered sizes t
  are_answered [] law = tt
  are_answered (c ∷ t) law =
      let past = client_back server sizes setup (c ∷ []) t law in (answered_here t c past, are_answered t past)

  shown_here : (t : List Call) (c : Call) → ClientLaw server sizes setup t → (n : Newly)
      → notifies (own_of sizes t) c ≡ Some n → IsAllOf n.message → length n.message.payload ≤ sizes.limit
      → reports (own_of sizes t) c ≡ of n.number
      (Value (sequence_in n.message) (tag_in n.message) (format_in n.message) n.message.payload)
  shown_here t (Feeds now from bytes w up settled (Some (event_of.Answer m)) sent token was) law n h =
      shown_first t law now from bytes w up settled sent token was m n h
  shown_here t (Feeds now from bytes w up settled (Some (event_of.Notice m)) sent token was) law n h =
      shown_later t law now from bytes w up settled sent token was m n h
  shown_here t _ law n h = absurd (cc h)

  pub are_shown : (t : List Call) → ClientLaw server sizes setup t → AreShownAtOnce sizes t
  are_shown [] law = tt
  are_shown (c ∷ t) law =
      let past = client_back server sizes setup (c ∷ []) t law in (shown_here t c past, are_shown t past)
