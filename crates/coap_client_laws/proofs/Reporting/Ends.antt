-- An exchange that ends without a response is reported so, and nothing else is.
use Rattle.std.proofs.Common.{◌≡◌, ◌⊎◌, inl, inr, ℕ, ◌+◌, max, Bool, true, false, Option, Some, None, List, [], ◌∷◌}
use Rattle.std.proofs.Common.{◌++◌, refl, ap, sym, subst, ◌∙◌, Result, Err, append_assoc}
use Rattle.coap_types.specs.Past.{Always}
use Rattle.coap_types.proofs.Facts.Traces.{Always_back}
use Rattle.coap_types.specs.declared.endpoint.Endpoint.{Endpoint}
use Rattle.coap_layer.specs.Trace as L
use Rattle.coap_layer.specs.declared.setup.Setup.{Setup}
use Rattle.coap_block.specs.Sizes.{Sizes}
use Rattle.coap_exchange.specs.declared.asker.AskRefusal.{AskRefusal}
use Rattle.coap_exchange.specs.declared.asker.AskRefusal.TheVariants as refusal
use Rattle.coap_exchange.specs.declared.asker.Event.{Event}
use Rattle.coap_exchange.specs.declared.asker.Event.TheVariants as event_of
use Rattle.coap_exchange.specs.declared.asker.Turn.{Turn}
use Rattle.coap_exchange.specs.declared.asker.Turn.TheVariants as turn_is
use Rattle.coap_exchange.specs.AskerTrace as E
use Rattle.coap_exchange.specs.AskerSteps as P
use Rattle.coap_exchange.specs.AskerArrivals.{turn_of}
use Rattle.coap_exchange.specs.AskerRequests.{opening_of, request_token}
use Rattle.coap_exchange.specs.AskerLaw as X
use Rattle.coap_exchange.specs.AskerTells.{TellsRunning, AreRefused}
use Rattle.coap_exchange.proofs.Facts.Exchanges as exchanges
use Rattle.coap_exchange.proofs.Facts.ClientSide.{are_refused}
use Rattle.coap_exchange.proofs.Facts.Moves.{token_in}
use Rattle.coap_client.specs.Trace.{Report, Reset, NoIds, Reported, Call, Calls, Feeds, Ticks}
use Rattle.coap_client.specs.Own.{Operation, Own}
use Rattle.coap_client.specs.Observations.{to_fetch}
use Rattle.coap_client.specs.Requests.{message_of}
use Rattle.coap_client.specs.Reports.{lapse}
use Rattle.coap_client.specs.Effects.{Asks, Effect}
use Rattle.coap_client.specs.Events.{happened, passes}
use Rattle.coap_client.specs.Deeds.{at, close, deeds, done_for}
use Rattle.coap_client.specs.Steps.{reports}
use Rattle.coap_client.specs.Law.{ClientLaw, ClientRows, own_of, lower_of}
use Rattle.coap_client.specs.Sendings.{Sending, last_sent}
use Rattle.coap_client_laws.proofs.Uploading.Holds.{goes_fed, goes_ticked}
use Rattle.coap_client.proofs.Facts.Turning.Leading.{client_back}
use Rattle.coap_client.proofs.Facts.Places.Once.{beneath, law_back, law_front, done_right, known}
use Rattle.coap_client_laws.proofs.Turning.Turns.{closing}
use Rattle.coap_client.proofs.Facts.Turning.ExchangeCame.{Came, came}
use Rattle.coap_client.proofs.Facts.Places.PlaceEffects.{Leaves}
use Rattle.coap_client.proofs.Facts.Places.PlaceDeeds.{AreRight}
use Rattle.coap_client_laws.specs.Follows.Ends.{ends_as, is_end, reported_of, report_to, Unsent, unsent, IsWant}
use Rattle.coap_client_laws.specs.Follows.Ends.{ReportsEnds}
use Rattle.coap_client_laws.specs.Follows.Ends.{AllEnds}
use Rattle.coap_client_laws.proofs.Reporting.ExchangeEnds.{failed_closed, ByTime, EndedBy, ended_by, end_lapse}
use Rattle.coap_client_laws.proofs.Reporting.ExchangeEnds.{want_or_runs}
use Rattle.coap_client_laws.proofs.Reporting.EffectReports.{is_lapse, lapse_in, reported_in, reported_is, answered_none}
use Rattle.coap_client_laws.proofs.Reporting.EffectReports.{noticed_none, idle_none, Refuses, refuses_so, unsent_asks}
use Rattle.coap_client_laws.proofs.Reporting.EffectReports.{unsent_report}
use Rattle.coap_client_laws.proofs.Reporting.GivenNumbers.{below_of, last_is, numbered_so}

module _ (server : Endpoint) (sizes : Sizes) (setup : Setup) where
  abbrev Laws : List E.Call → Type 0
  Laws calls = X.AskerLaw server setup calls

  -- what is handed in to the exchanges, and asked of them then
  module _ (t : List Call) (now w : ℕ) (sent : L.Answer) (token : Result (List ℕ) AskRefusal) (kept : Bool) (e : Effect)
      (input : E.Call) where
    abbrev m : ℕ
    m = max (own_of sizes t).clock now

    abbrev calls : List E.Call
    calls = done_for e m w sent token kept input ++ lower_of sizes t

    abbrev later : List E.Call
    later = deeds (close m e token).deed (close m e token).own m w sent token kept

    abbrev x1 : E.Own
    x1 = P.after (beneath server sizes setup t) input

    right : Laws calls → P.IsRight (beneath server sizes setup t) input
        × AreRight x1 (later ++ deeds e.deed e.own m w sent token kept)
    right law = done_right (beneath server sizes setup t) later (deeds e.deed e.own m w sent token kept) input
        (law_front server setup (later ++ (deeds e.deed e.own m w sent token kept ++ input ∷ [])) (lower_of sizes t)
        law)

    -- a request that is asked for and not sent
    module _ (law : Laws calls) (told : AreRefused calls) (op : Operation) (why : AskRefusal) (asks : e.deed ≡ Asks op)
        (given_so : token ≡ Err why) (leaves : Leaves e.deed e x1.running) where
      abbrev ask : E.Call
      ask = E.Ask m (message_of e.own.observations op) w sent token

      none_runs : x1.running ≡ None
      none_runs = subst (λ d. Leaves d e x1.running) asks leaves

      behind : Always TellsRunning (ask ∷ input ∷ lower_of sizes t)
      behind =
          subst (λ d. Always TellsRunning ((deeds d e.own m w sent token kept ++ input ∷ []) ++ lower_of sizes t)) asks
          (Always_back TellsRunning later ((deeds e.deed e.own m w sent token kept ++ input ∷ []) ++ lower_of sizes t)
          (subst (Always TellsRunning) (append_assoc later (deeds e.deed e.own m w sent token kept ++ input ∷ [])
          (lower_of sizes t)) told))

      rows_behind : Laws (ask ∷ input ∷ lower_of sizes t)
      rows_behind =
          subst (λ d. Laws ((deeds d e.own m w sent token kept ++ input ∷ []) ++ lower_of sizes t)) asks
          (law_back server setup later ((deeds e.deed e.own m w sent token kept ++ input ∷ []) ++ lower_of sizes t)
          (subst Laws (append_assoc later (deeds e.deed e.own m w sent token kept ++ input ∷ [])
          (lower_of sizes t)) law))

      not_running : why ≡ refusal.Running → ⊥
      not_running is =
          let o = behind.0.runs m w (message_of e.own.observations op) sent
          (ap (λ z. E.Ask m (message_of e.own.observations op) w sent z) (given_so ∙ ap (λ y. Err y) is)) in
          let k = exchanges.runs_it server setup (input ∷ lower_of sizes t) rows_behind.1 o.0 o.1 in
          let none : None ≡ Some o.0 = ap token_in (sym none_runs) ∙ k in
          cc none

      wanting : IsWant why
      wanting = elim (want_or_runs (opening_of x1 (message_of e.own.observations op)) sent
          (request_token x1 (message_of e.own.observations op)) why (sym rows_behind.0 ∙ given_so)) [
            | inr want ↦ want
            | inl runs ↦ absurd (not_running runs)
          ]

  -- a datagram
  module _ (t : List Call) (now : ℕ) (from : Endpoint) (bytes : List ℕ) (w : ℕ) (up : L.Answer) (settled : Bool)
      (event : Option Event) (sent : L.Answer) (token : Result (List ℕ) AskRefusal) (kept : Bool)
      (rows : ClientRows sizes t) (law : Laws (lower_of sizes
      (Feeds now from bytes w up settled event sent token kept ∷ t))) where
    abbrev s : Own
    s = at now (own_of sizes t)

    abbrev feed : Call
    feed = Feeds now from bytes w up settled event sent token kept

    abbrev input : E.Call
    input = E.Receive (max (own_of sizes t).clock now) from bytes up settled event

    abbrev moment : ℕ
    moment = max (own_of sizes t).clock now

    abbrev fed_effect : Effect
    fed_effect = happened s moment event

    under : Laws (lower_of sizes t)
    under = below_of server sizes setup t feed law

    came_so : Came (beneath server sizes setup t).running (P.after (beneath server sizes setup t) input).running event
    came_so = came (beneath server sizes setup t) from _ up event (right t now w sent token kept fed_effect input law).0

    fed_want : AreRefused (lower_of sizes (feed ∷ t)) → (u : Unsent) → unsent (own_of sizes t) feed ≡ Some u
        → IsWant u.why
    fed_want told u is =
        let k = unsent_asks fed_effect token u is in
        let g = goes_fed server sizes setup t now from bytes w up settled event sent token kept
        (known server sizes setup t rows under) law in
        wanting t now w sent token kept fed_effect input law told u.operation u.why k.0 k.1 g.leaves

    abbrev Tells : Reported → Type 0
    Tells x = ((is_end x.report ≡ true) × (ends_as feed ≡ Some x.report)) ⊎ Refuses fed_effect token x

    fed_tells : (x : Reported) → reports (own_of sizes t) feed ≡ Some x → is_lapse x.report ≡ true → Tells x
    fed_tells x made lapse_so = by event refl came_so
      where
        quiet_so : (o : Option Event) → event ≡ o → lapse_in (happened s moment o).report ≡ false → Tells x
        quiet_so o is none = inr (refuses_so moment fed_effect token (closing moment fed_effect token)
            (ap (λ z. lapse_in (happened s moment z).report) is ∙ none) x made lapse_so)

        by : (o : Option Event) → event ≡ o → Came (beneath server sizes setup t).running
            (P.after (beneath server sizes setup t) input).running o → Tells x
        by None is h = quiet_so None is refl
        by (Some (event_of.Answer a)) is h = quiet_so (Some (event_of.Answer a)) is (answered_none s moment a s.running)
        by (Some (event_of.Notice a)) is h = quiet_so (Some (event_of.Notice a)) is (noticed_none s moment a)
        by (Some event_of.Reset) is h =
            let e : (close moment (happened s moment (Some event_of.Reset)) token).report
            ≡ Some x = ap (λ z. (close moment (happened s moment z) token).report) (sym is) ∙ made in
            let k = reported_is Reset (reported_in s.running) x
            (sym (failed_closed moment Reset s s.running token) ∙ e) in
            inl (
              ap is_end k.0,
              ap (λ z. ends_as (Feeds now from bytes w up settled z sent token kept)) is
                  ∙ ap (λ z. Some z) (sym k.0),
            )
        by _ is h = absurd h

    abbrev Ended : Report → Type 0
    Ended r = (x : Sending) × (last_sent sizes t ≡ Some x)
        × (reports (own_of sizes t) feed ≡ report_to r (reported_of x.operation))

    fed_ends : (r : Report) → ends_as feed ≡ Some r → Ended r
    fed_ends r ends_so = by event refl came_so (ends_so)
      where
        by : (o : Option Event) → event ≡ o → Came (beneath server sizes setup t).running
            (P.after (beneath server sizes setup t) input).running o
            → ends_as (Feeds now from bytes w up settled o sent token kept) ≡ Some r → Ended r
        by (Some event_of.Timeout) is h end_is = absurd h
        by (Some event_of.NoResponse) is h end_is = absurd h
        by (Some event_of.Reset) is h end_is =
            let same : Reset ≡ r = cc end_is in
            let k = last_is server sizes setup t rows under h.0 h.1 in (
              k.sending,
              k.last,
              ap (λ z. (close moment (happened s moment z) token).report) is
                  ∙ (failed_closed moment Reset s s.running token
                  ∙ (ap (report_to Reset) k.same ∙ ap (λ z. report_to z (reported_of k.sending.operation)) same)),
            )
        by _ is h end_is = absurd (cc end_is)

  -- time passes
  module _ (t : List Call) (now w : ℕ) (below : L.Answer) (turn : Turn) (sent : L.Answer)
      (token : Result (List ℕ) AskRefusal) (kept answer : Bool)
      (rows : ClientRows sizes t) (law : Laws (lower_of sizes
      (Ticks now w below turn sent token kept answer ∷ t))) where
    abbrev ts : Own
    ts = at now (own_of sizes t)

    abbrev tick : Call
    tick = Ticks now w below turn sent token kept answer

    abbrev tick_moment : ℕ
    tick_moment = max (own_of sizes t).clock now

    abbrev tick_input : E.Call
    tick_input = E.Ticks tick_moment below turn

    abbrev tick_effect : Effect
    tick_effect = passes ts tick_moment turn

    tick_under : Laws (lower_of sizes t)
    tick_under = below_of server sizes setup t tick law

    tick_right : turn ≡ turn_of (beneath server sizes setup t)
        (max (beneath server sizes setup t).clock tick_moment) below
    tick_right = (right t now w sent token kept tick_effect tick_input law).0

    tick_want : AreRefused (lower_of sizes (tick ∷ t)) → (u : Unsent) → unsent (own_of sizes t) tick ≡ Some u
        → IsWant u.why
    tick_want told u is =
        let k = unsent_asks tick_effect token u is in
        let g = goes_ticked server sizes setup t now turn (known server sizes setup t rows tick_under) in
        wanting t now w sent token kept tick_effect tick_input law told u.operation u.why k.0 k.1 g.leaves

    abbrev TickTells : Reported → Type 0
    TickTells x = ((is_end x.report ≡ true) × (ends_as tick ≡ Some x.report)) ⊎ Refuses tick_effect token x

    end_said : (e : Event) → ByTime e → turn ≡ turn_is.End e
        → (is_end (lapse e) ≡ true) × (ends_as tick ≡ Some (lapse e))
    end_said e (inl timeout) is = (
      ap (λ z. is_end (lapse z)) timeout,
      ap (λ z. ends_as (Ticks now w below z sent token kept answer)) is
          ∙ (ap (λ z. ends_as (Ticks now w below (turn_is.End z) sent token kept answer)) timeout
          ∙ ap (λ z. Some (lapse z)) (sym timeout)),
    )
    end_said e (inr none) is = (
      ap (λ z. is_end (lapse z)) none,
      ap (λ z. ends_as (Ticks now w below z sent token kept answer)) is
          ∙ (ap (λ z. ends_as (Ticks now w below (turn_is.End z) sent token kept answer)) none
          ∙ ap (λ z. Some (lapse z)) (sym none)),
    )

    ended_here : (e : Event) → turn ≡ turn_is.End e → EndedBy (beneath server sizes setup t) e
    ended_here e is = ended_by (beneath server sizes setup t) (max
        (beneath server sizes setup t).clock tick_moment) below e
        (sym is ∙ tick_right)

    tick_tells : (x : Reported) → reports (own_of sizes t) tick ≡ Some x → is_lapse x.report ≡ true → TickTells x
    tick_tells x made lapse_so = by turn refl
      where
        quiet_so : (v : Turn) → turn ≡ v → lapse_in (passes ts tick_moment v).report ≡ false → TickTells x
        quiet_so v is none = inr (refuses_so tick_moment tick_effect token (closing tick_moment tick_effect token)
            (ap (λ z. lapse_in (passes ts tick_moment z).report) is ∙ none) x made lapse_so)

        by : (v : Turn) → turn ≡ v → TickTells x
        by turn_is.Idle is = quiet_so turn_is.Idle is (idle_none ts tick_moment ts.running (to_fetch ts.observations))
        by turn_is.Copied is = quiet_so turn_is.Copied is refl
        by (turn_is.End e) is =
            let made_so : (close tick_moment (passes ts tick_moment (turn_is.End e)) token).report
            ≡ Some x = ap (λ z. (close tick_moment (passes ts tick_moment z) token).report) (sym is) ∙ made in
            let k = reported_is (lapse e) (reported_in ts.running) x
            (sym (failed_closed tick_moment (lapse e) ts ts.running token) ∙ made_so) in
            let said = end_said e (ended_here e is).by_time is in
            inl (ap is_end k.0 ∙ said.0, said.1 ∙ ap (λ z. Some z) (sym k.0))

    abbrev TickEnded : Report → Type 0
    TickEnded r = (x : Sending) × (last_sent sizes t ≡ Some x)
        × (reports (own_of sizes t) tick ≡ report_to r (reported_of x.operation))

    tick_ends : (r : Report) → ends_as tick ≡ Some r → TickEnded r
    tick_ends r ends_so = by turn refl ends_so
      where
        by : (v : Turn) → turn ≡ v → ends_as (Ticks now w below v sent token kept answer) ≡ Some r → TickEnded r
        by (turn_is.End e) is end_is =
            let z = ended_here e is in
            let said = end_said e z.by_time is in
            let same : Some (lapse e) ≡ Some r = sym said.1
            ∙ (ap (λ v. ends_as (Ticks now w below v sent token kept answer)) is ∙ end_is) in
            let report_is : lapse e ≡ r = cc same in
            let k = last_is server sizes setup t rows tick_under z.exchange z.runs in (
              k.sending,
              k.last,
              ap (λ v. (close tick_moment (passes ts tick_moment v) token).report) is
                  ∙ (failed_closed tick_moment (lapse e) ts ts.running token
                  ∙ (ap (report_to (lapse e)) k.same ∙ ap
                  (λ v. report_to v (reported_of k.sending.operation)) report_is)),
            )
        by _ is end_is = absurd (cc end_is)

  -- each call
  abbrev AllSo : List Call → Call → Type 0
  AllSo t c =
      ((r : Report) → ends_as c ≡ Some r → (x : Sending) × (last_sent sizes t ≡ Some x)
      × (reports (own_of sizes t) c ≡ report_to r (reported_of x.operation)))
      × ((x : Reported) → reports (own_of sizes t) c ≡ Some x → is_lapse x.report ≡ true
      → ((is_end x.report ≡ true) × (ends_as c ≡ Some x.report))
      ⊎ ((u : Unsent) × (unsent (own_of sizes t) c ≡ Some u) × (x.report ≡ NoIds)
      × (reported_of u.operation ≡ Some x.number)))
      × ((u : Unsent) → unsent (own_of sizes t) c ≡ Some u
      → IsWant u.why × (reports (own_of sizes t) c ≡ report_to NoIds (reported_of u.operation)))

  all_so : (t : List Call) (c : Call) → ClientLaw server sizes setup (c ∷ t) → AllSo t c
  all_so t (Feeds now from bytes w up settled event sent token kept) law =
      let rows = law.rows.1 in
      let told = are_refused server setup (lower_of sizes (Feeds now from bytes w up settled event sent token kept ∷ t))
      law.exchanges in
      let e : Effect = happened (at now (own_of sizes t)) (max (own_of sizes t).clock now) event in (
        λ r h. fed_ends t now from bytes w up settled event sent token kept rows law.exchanges.rows r h,
        λ x made h. elim (fed_tells t now from bytes w up settled event sent token kept rows law.exchanges.rows x made
            h) [
              | inl k ↦ inl k
              | inr k ↦ inr (k.unsent, k.is, k.report, k.number)
            ],
        λ u h. (
          fed_want t now from bytes w up settled event sent token kept rows law.exchanges.rows told u h,
          unsent_report (max (own_of sizes t).clock now) e token u h,
        ),
      )
  all_so t (Ticks now w below turn sent token kept answer) law =
      let rows = law.rows.1 in
      let told = are_refused server setup (lower_of sizes (Ticks now w below turn sent token kept answer ∷ t))
      law.exchanges in
      let e : Effect = passes (at now (own_of sizes t)) (max (own_of sizes t).clock now) turn in (
        λ r h. tick_ends t now w below turn sent token kept answer rows law.exchanges.rows r h,
        λ x made h. elim (tick_tells t now w below turn sent token kept answer rows law.exchanges.rows x made h) [
          | inl k ↦ inl k
          | inr k ↦ inr (k.unsent, k.is, k.report, k.number)
        ],
        λ u h. (
          tick_want t now w below turn sent token kept answer rows law.exchanges.rows told u h,
          unsent_report (max (own_of sizes t).clock now) e token u h,
        ),
      )
  all_so t (Calls now r answer) law = (λ r h. absurd (cc h), λ x made h. absurd (cc made), λ u h. absurd (cc h))
  all_so t _ law = (λ r h. absurd (cc h), λ x made h. absurd (cc made), λ u h. absurd (cc h))

  ends_here : (t : List Call) (c : Call) → ClientLaw server sizes setup (c ∷ t) → ReportsEnds sizes t c
  ends_here t c law =
      let k = all_so t c law in
      record {
        numbered = numbered_so server sizes setup t c law;
        each = k.0;
        only = λ x made h. elim (k.1 x made (end_lapse x.report h))
            [ inl z ↦ z.1 | inr z ↦ absurd (cc (sym (ap is_end z.2) ∙ h)) ];
        each_unsent = k.2;
        no_ids = λ number made. elim (k.1 (record { number = number; report = NoIds }) made refl)
            [ inl z ↦ absurd (cc z.0) | inr z ↦ (z.0, z.1, z.3) ];
      }

  pub all_ends : (t : List Call) → ClientLaw server sizes setup t → AllEnds sizes t
  all_ends [] law = tt
  all_ends (c ∷ t) law = (ends_here t c law, all_ends t (client_back server sizes setup (c ∷ []) t law))
