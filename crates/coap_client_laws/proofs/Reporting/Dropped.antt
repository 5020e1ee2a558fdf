-- Where what runs counts no longer, the request that was sent last is a fetch for an observation: that is over, or a
-- newer notification of it came since.
use Rattle.std.proofs.Common.{◌≡◌, ◌≤◌, ◌⊎◌, inl, inr, ℕ, max, Bool, true, false, cond, Option, Some, None, List, []}
use Rattle.std.proofs.Common.{◌∷◌, refl, ap, sym, subst, ◌∙◌, Ok, Err, arith}
use Rattle.std.specs.Prelude.{◌==◌}
use Rattle.coap_types.specs.declared.endpoint.Endpoint.{Endpoint}
use Rattle.coap_layer.specs.declared.setup.Setup.{Setup}
use Rattle.coap_codec.specs.Message.{Message}
use Rattle.coap_block.specs.Sizes.{Sizes}
use Rattle.coap_exchange.specs.AskerLaw as X
use Rattle.coap_exchange.specs.declared.asker.Event.{Event}
use Rattle.coap_exchange.specs.declared.asker.Exchange.{Exchange}
use Rattle.coap_observe.specs.Newer.{is_newer}
use Rattle.coap_client.specs.Trace.{NoIds, Report, Ended, Reported, Call, Calls, Observes, Cancels, Forgets, Feeds}
use Rattle.coap_client.specs.Trace.{Ticks, NextOut, NextReport, Asked}
use Rattle.coap_client.specs.Own.{Transfer, Operation, Calling, Registering, Fetching, Cancelling, Dropped, Observation}
use Rattle.coap_client.specs.Own.{Own}
use Rattle.coap_client.specs.Observations.{observation_with, dropped}
use Rattle.coap_client.specs.Responses.{is_notification, sequence_in}
use Rattle.coap_client.specs.Effects.{Asks, Effect, has_sent}
use Rattle.coap_client.specs.Events.{failed}
use Rattle.coap_client.specs.Reports.{lapse}
use Rattle.coap_client.specs.Deeds.{at}
use Rattle.coap_client.specs.Steps.{lower, reports}
use Rattle.coap_client.specs.Law.{ClientRows, own_of, lower_of}
use Rattle.coap_client_laws.specs.Follows.Newer.{Newly, newly, taken_by, notifies}
use Rattle.coap_client_laws.specs.Follows.Newer as newer_of
use Rattle.coap_client_laws.specs.Follows.Notified.{is_newly_of}
use Rattle.coap_client.specs.Places.{final_of, gone}
use Rattle.coap_client_laws.specs.Follows.Values.{SentSince}
use Rattle.coap_client.specs.Sendings.{Sending, sends, last_sent}
use Rattle.coap_client_laws.proofs.Queueing.Closing.{Closing, quiet, goes_out, is_refused}
use Rattle.coap_client.specs.Turns.Moves as mv
use Rattle.coap_client.specs.Turns.Moves.{Move, left_by}
use Rattle.coap_client.proofs.Facts.Calls.Happening.{AsksNothing}
use Rattle.coap_client.proofs.Facts.Calls.PassingLemmas.{fails_silently}
use Rattle.coap_client.proofs.Facts.Places.Once.{beneath, law_back, known}
use Rattle.coap_client.proofs.Facts.Places.PlaceEffects.{Waits, AllWait}
use Rattle.coap_client.proofs.Facts.Places.PlaceLemmas.{same_number, number_self, hit_self}
use Rattle.coap_client_laws.proofs.Queueing.OneByOne.{asks_runs, last_same}
use Rattle.coap_client.proofs.Facts.Turning.Moves.{releases_none}
use Rattle.coap_client_laws.proofs.Turning.Turns.{Turned, fed_turned, ticked_turned}
use Rattle.coap_client_laws.proofs.Uploading.SentSoFar.{IfTracked}
use Rattle.coap_client_laws.proofs.Uploading.AllSent.{all_sends}
use Rattle.coap_client_laws.proofs.Observing.FetchesSince.{failed_some as failed_none}

-- no request is asked for that no longer counts

counts : (s : Own) (now : ℕ) (told : Option Event) → AllWait s.observations s.queue → (mo : Move s now told)
    → (left_by s now told mo).deed ≡ Asks Dropped → ⊥
counts s now told w (mv.starts_next op queue none rest first q) h =
    let op_is : op ≡ Dropped = cc h in
    subst (Waits s.observations) op_is (subst (AllWait s.observations) first w).0
counts s now told w (mv.cancels k m hears is) h = releases_none _ Dropped h
counts s now told w (mv.fails e un) h = subst AsksNothing h (fails_silently (λ t. true) (lapse e) s s.running)
counts s now told w (mv.is_ended o m notes found note) h = releases_none _ Dropped h
counts s now told w _ h = cc h

-- What runs counts no longer: it did so before; or a fetch ran, and its observation is over, or a newer notification of
-- it came.
data Drop (s : Own) (now : ℕ) (told : Option Event) (report : Option Reported) : Type 0 where
  before : s.running ≡ Some Dropped → Drop s now told report
  over : (k : ℕ) → s.running ≡ Some (Fetching k) → final_of k report ≡ 1 → Drop s now told report
  newer : (k : ℕ) (n : Newly) → s.running ≡ Some (Fetching k) → taken_by s now told ≡ Some n → n.number ≡ k
      → Drop s now told report

abbrev newly_as : ℕ → ℕ → Message → Newly
newly_as k now m = record { number = k; mark = record { number = sequence_in m; at = now }; message = m }

module _ (s : Own) (now : ℕ) (told : Option Event) where
  drop_by : (report : Option Reported) (j : ℕ)
      → ((k : ℕ) → j ≡ k → s.running ≡ Some (Fetching k) → Drop s now told report)
      → (running : Option Operation) → s.running ≡ running → dropped j running ≡ Some Dropped → Drop s now told report
  drop_by report j f (Some Dropped) is h = before is
  drop_by report j f (Some (Fetching k)) is h = by (k == j) refl h
    where
      by : (b : Bool) → (k == j) ≡ b → cond b (Some Dropped) (Some (Fetching k)) ≡ Some Dropped
          → Drop s now told report
      by true e h = f k (sym (same_number k j e)) is
      by false e h = absurd (cc h)
  drop_by report j f _ is h = absurd (cc h)

  drop_failed : (u : Transfer → Bool) (report : Report) (running : Option Operation) → s.running ≡ running
      → (failed u report s running).own.running ≡ Some Dropped → Drop s now told (failed u report s running).report
  drop_failed u report None is h = before h
  drop_failed u report (Some op) is h = let z : None ≡ Some Dropped = sym (failed_none u report s op) ∙ h in
      absurd (cc z)

  comes : (o : Observation) (m : Message) → mv.Notes told m → observation_with m.token s.observations ≡ Some o
      → is_notification m ≡ true → is_newer o.watch.mark (sequence_in m) now ≡ true
      → taken_by s now told ≡ newly o.number now m
  comes o m notes found note newer_so =
      ap (taken_by s now) notes ∙ (ap (λ z. newer_of.renews z now m) found
      ∙ (ap (λ b. cond b (cond (is_newer o.watch.mark (sequence_in m) now) (newly o.number now m) None) None) note
      ∙ ap (λ b. cond b (newly o.number now m) None) newer_so))

  drops : AllWait s.observations s.queue → (mo : Move s now told)
      → (left_by s now told mo).own.running ≡ Some Dropped → Drop s now told (left_by s now told mo).report
  drops w (mv.rests un) h = before h
  drops w (mv.copies q) h = before h
  drops w (mv.starts_next op queue none rest first q) h =
      let op_is : op ≡ Dropped = cc h in
      absurd (subst (Waits s.observations) op_is (subst (AllWait s.observations) first w).0)
  drops w (mv.fails e un) h = drop_failed (λ t. true) (lapse e) s.running refl h
  drops w (mv.is_ended o m notes found note) h =
      drop_by (Some (record { number = o.number; report = Ended m.code })) o.number
      (λ k same is. over k is (ap (λ i. final_of k (Some (record { number = i; report = Ended m.code }))) same
      ∙ hit_self k)) s.running refl h
  drops w (mv.renews o m notes found note newer_so) h =
      drop_by (left_by s now told (mv.renews o m notes found note newer_so)).report o.number
      (λ k same is. newer k (newly_as o.number now m) is (comes o m notes found note newer_so) same) s.running refl h
  drops w (mv.passes_by o m notes found note newer_so) h = before h
  drops w _ h = absurd (cc h)

module _ (sizes : Sizes) where
  -- the request that was sent last; it is dropped
  pub record LastFetches (t : List Call) : Type 0 where
    pub sending : Sending
    pub last : last_sent sizes t ≡ Some sending
    pub number : ℕ
    pub fetches : sending.operation ≡ Fetching number
    pub off : (1 ≤ gone sizes number t) ⊎ (SentSince sizes number sending t → ⊥)

  abbrev pub IfDropped : List Call → Type 0
  IfDropped t = (own_of sizes t).running ≡ Some Dropped → LastFetches t

  fetches_later : (t : List Call) (c : Call) → sends (own_of sizes t) c ≡ None → LastFetches t → LastFetches (c ∷ t)
  fetches_later t c none h = record {
    sending = h.sending;
    last = last_same sizes t c none ∙ h.last;
    number = h.number;
    fetches = h.fetches;
    off = elim h.off [
      | inl g ↦ inl (omega (arith, g))
      | inr f ↦ inr (λ since. elim since.1 [
        | inl now ↦ (let z : None ≡ Some h.sending = sym none ∙ now in cc z)
        | inr earlier ↦ f earlier
      ])
    ];
  }

  module _ (server : Endpoint) (setup : Setup) where
    -- the fetch of an observation was sent last, and is dropped now
    of_fetch : (t : List Call) (c : Call) → sends (own_of sizes t) c ≡ None → (k : ℕ) (x : Option Exchange)
        → IfTracked sizes t (Some (Fetching k)) x
        → ((y : Sending) → (1 ≤ gone sizes k (c ∷ t)) ⊎ (SentSince sizes k y (c ∷ t) → ⊥)) → LastFetches (c ∷ t)
    of_fetch t c none k x h off = record {
      sending = h.sending;
      last = last_same sizes t c none ∙ h.last;
      number = k;
      fetches = elim h.same [ inl d ↦ absurd (cc d) | inr e ↦ e ];
      off = off h.sending;
    }

    module _ (t : List Call) (c : Call) (ih : IfDropped t)
        (tr : IfTracked sizes t (own_of sizes t).running (beneath server sizes setup t).running) where
      fetched_so : sends (own_of sizes t) c ≡ None → (k : ℕ) → (own_of sizes t).running ≡ Some (Fetching k)
          → ((y : Sending) → (1 ≤ gone sizes k (c ∷ t)) ⊎ (SentSince sizes k y (c ∷ t) → ⊥)) → LastFetches (c ∷ t)
      fetched_so none k is off = of_fetch t c none k (beneath server sizes setup t).running
          (subst (λ o. IfTracked sizes t o (beneath server sizes setup t).running) is tr) off

      -- it is forgotten
      dropped_of : sends (own_of sizes t) c ≡ None → (j : ℕ) → 1 ≤ gone sizes j (c ∷ t) → (running : Option Operation)
          → (own_of sizes t).running ≡ running → dropped j running ≡ Some Dropped → LastFetches (c ∷ t)
      dropped_of none j off (Some Dropped) is h = fetches_later t c none (ih is)
      dropped_of none j off (Some (Fetching k)) is h = by (k == j) refl h
        where
          by : (b : Bool) → (k == j) ≡ b → cond b (Some Dropped) (Some (Fetching k)) ≡ Some Dropped
              → LastFetches (c ∷ t)
          by true e h = fetched_so none k is (λ y. inl (subst (λ i. 1 ≤ gone sizes i (c ∷ t))
              (sym (same_number k j e)) off))
          by false e h = absurd (cc h)
      dropped_of none j off _ is h = absurd (cc h)

      module _ (w : AllWait (own_of sizes t).observations (own_of sizes t).queue) (k : Turned sizes t c) where
        abbrev m : ℕ
        m = max (own_of sizes t).clock k.now

        abbrev s : Own
        s = at k.now (own_of sizes t)

        abbrev left : Effect
        left = left_by s m k.told k.move

        drop_now : sends (own_of sizes t) c ≡ None → reports (own_of sizes t) c ≡ left.report
            → Drop s m k.told left.report → LastFetches (c ∷ t)
        drop_now none made (before is) = fetches_later t c none (ih is)
        drop_now none made (over j is final) = fetched_so none j is (λ y. inl (
            let z : final_of j (reports (own_of sizes t) c) ≡ 1 = ap (final_of j) made ∙ final in
            omega (arith, z)))
        drop_now none made (newer j n is taken same) = fetched_so none j is (λ y. inr (λ since. (
            let noted : notifies (own_of sizes t) c ≡ Some n = k.notifies_is ∙ taken in
            let here : is_newly_of j (notifies (own_of sizes t) c) ≡ true =
            ap (is_newly_of j) noted ∙ (ap (λ i. i == j) same ∙ number_self j) in
            let z : true ≡ false = sym here ∙ since.0 in
            cc z)))

        by_closing : Closing m left k.token → (own_of sizes (c ∷ t)).running ≡ Some Dropped → LastFetches (c ∷ t)
        by_closing (quiet q none own_same report_same) is =
            drop_now (k.sends_is ∙ none) (k.reports_is ∙ report_same)
            (drops s m k.told w k.move (sym (ap (λ (o : Own). o.running) own_same)
            ∙ (sym (ap (λ (o : Own). o.running) k.own_is) ∙ is)))
        by_closing (goes_out op key asked given sends_it own_same report_same) is =
            let running : Some op ≡ Some Dropped = sym (asks_runs s m k.told k.move op asked)
            ∙ (sym (ap (λ (o : Own). o.running) own_same) ∙ (sym (ap (λ (o : Own). o.running) k.own_is) ∙ is)) in
            let op_is : op ≡ Dropped = cc running in
            absurd (counts s m k.told w k.move (asked ∙ ap (λ o. Asks o) op_is))
        by_closing (is_refused op why asked given none all) is =
            let running : None ≡ Some Dropped = sym (failed_none has_sent NoIds left.own op)
            ∙ (sym (ap (λ (z : Effect). z.own.running) all) ∙ (sym (ap (λ (o : Own). o.running) k.own_is) ∙ is)) in
            absurd (cc running)

        turned : IfDropped (c ∷ t)
        turned = by_closing k.closes

    pub if_dropped : (t : List Call) → ClientRows sizes t → X.AskerLaw server setup (lower_of sizes t) → IfDropped t
    if_dropped [] rows law = λ is. absurd (cc is)
    if_dropped (Calls now r (Ok k) ∷ t) rows law =
        λ is. fetches_later t (Calls now r (Ok k)) refl (if_dropped t rows.1 law is)
    if_dropped (Calls now r (Err why) ∷ t) rows law =
        λ is. fetches_later t (Calls now r (Err why)) refl (if_dropped t rows.1 law is)
    if_dropped (Observes now path (Ok k) ∷ t) rows law =
        λ is. fetches_later t (Observes now path (Ok k)) refl (if_dropped t rows.1 law is)
    if_dropped (Observes now path (Err why) ∷ t) rows law =
        λ is. fetches_later t (Observes now path (Err why)) refl (if_dropped t rows.1 law is)
    if_dropped (Cancels now k None ∷ t) rows law =
        λ is. fetches_later t (Cancels now k None) refl (if_dropped t rows.1 law is)
    if_dropped (Cancels now k (Some why) ∷ t) rows law =
        λ is. fetches_later t (Cancels now k (Some why)) refl (if_dropped t rows.1 law is)
    if_dropped (NextOut answer ∷ t) rows law = λ is. fetches_later t (NextOut answer) refl
        (if_dropped t rows.1 law.1 is)
    if_dropped (NextReport answer ∷ t) rows law =
        λ is. fetches_later t (NextReport answer) refl (if_dropped t rows.1 law is)
    if_dropped (Asked answer ∷ t) rows law = λ is. fetches_later t (Asked answer) refl (if_dropped t rows.1 law is)
    if_dropped (Forgets k was false ∷ t) rows law =
        λ is. fetches_later t (Forgets k was false) refl (if_dropped t rows.1 law is)
    if_dropped (Forgets k was true ∷ t) rows law =
        let below = law_back server setup (lower (own_of sizes t) (Forgets k was true)) (lower_of sizes t) law in
        let one = hit_self k in
        λ is. dropped_of t (Forgets k was true) (if_dropped t rows.1 below)
        (all_sends sizes server setup t rows.1 below).tracked refl k (omega (arith, one))
        (own_of sizes t).running refl is
    if_dropped (Feeds now from bytes w up settled event sent token was ∷ t) rows law =
        let c : Call = Feeds now from bytes w up settled event sent token was in
        let below = law_back server setup (lower (own_of sizes t) c) (lower_of sizes t) law in
        turned t c (if_dropped t rows.1 below) (all_sends sizes server setup t rows.1 below).tracked
        (known server sizes setup t rows.1 below).waits
        (fed_turned sizes t now from bytes w up settled event sent token was)
    if_dropped (Ticks now w below_it turn sent token was answer ∷ t) rows law =
        let c : Call = Ticks now w below_it turn sent token was answer in
        let below = law_back server setup (lower (own_of sizes t) c) (lower_of sizes t) law in
        turned t c (if_dropped t rows.1 below) (all_sends sizes server setup t rows.1 below).tracked
        (known server sizes setup t rows.1 below).waits
        (ticked_turned sizes t now w below_it turn sent token was answer)
