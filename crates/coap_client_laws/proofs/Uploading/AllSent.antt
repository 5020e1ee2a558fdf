-- What was sent so far, along a whole history.
use Rattle.std.proofs.Common.{◌≡◌, ◌≤◌, inl, inr, ℕ, ◌+◌, max, Bool, true, false, Option, Some, None, List, [], ◌∷◌}
use Rattle.std.proofs.Common.{◌++◌, refl, ap, sym, subst, ◌∙◌, arith, Result, Ok, Err}
use Rattle.std.specs.Prelude.{nat_lt}
use Rattle.coap_types.specs.declared.endpoint.Endpoint.{Endpoint}
use Rattle.coap_codec.specs.Message.{Message}
use Rattle.coap_block.specs.Sizes.{Sizes}
use Rattle.coap_layer.specs.Trace as L
use Rattle.std.proofs.lemmas.Bool.{ltb-true, lt-ltb}
use Rattle.coap_layer.specs.declared.setup.Setup.{Setup}
use Rattle.coap_exchange.specs.declared.asker.AskRefusal.{AskRefusal}
use Rattle.coap_exchange.specs.declared.asker.Event.{Event}
use Rattle.coap_exchange.specs.declared.asker.Event.TheVariants as event_of
use Rattle.coap_exchange.specs.declared.asker.Turn.{Turn}
use Rattle.coap_exchange.specs.declared.asker.Exchange.{Exchange}
use Rattle.coap_exchange.specs.AskerTrace as E
use Rattle.coap_exchange.specs.AskerSteps as P
use Rattle.coap_exchange.specs.AskerLaw as X
use Rattle.coap_client.specs.Trace.{Call, Calls, Observes, Cancels, Forgets, Feeds, Ticks, NextOut, NextReport, Asked}
use Rattle.coap_client.specs.Own.{Operation, Registering, Cancelling, Own}
use Rattle.coap_client.specs.Observing.{releases}
use Rattle.coap_client.specs.Observations.{observation_of}
use Rattle.coap_client.specs.Queue.{calling}
use Rattle.coap_client.specs.Effects.{Deed, Asks, Effect}
use Rattle.coap_client.specs.Events.{happened, passes}
use Rattle.coap_client.specs.Deeds.{at, close, deeds, done_for}
use Rattle.coap_client.specs.Steps.{lower}
use Rattle.coap_client.specs.Law.{ClientRows, own_of, lower_of}
use Rattle.coap_client.specs.Sendings.{sends, hears}
use Rattle.coap_client.specs.Places.{in_op, in_running, in_queue, in_observations, gone}
use Rattle.coap_client.proofs.Facts.Places.PlaceLemmas.{in_queue_append, in_uncancelled}
use Rattle.coap_client.proofs.Facts.Turning.ExchangeCame.{Came, came}
use Rattle.coap_client.proofs.Facts.Places.PlaceDeeds.{ran, AreRight, quiet_deeds}
use Rattle.coap_client.proofs.Facts.Places.Once.{law_back, law_front, own_ran, done_ran, done_right, beneath, Known}
use Rattle.coap_client.proofs.Facts.Places.Once.{known}
use Rattle.coap_client.proofs.Facts.Places.Once.{fed, ticked}
use Rattle.coap_client_laws.proofs.Uploading.Holds.{goes_fed, goes_ticked}
use Rattle.coap_client_laws.proofs.Turning.BlockByBlock.{heard_in, happened_from, passes_from, AllOf, all_uncancelled}
use Rattle.coap_client_laws.proofs.Turning.BlockByBlock.{happened_runs, passes_runs, TokenStays, came_stays}
use Rattle.coap_client_laws.proofs.Turning.BlockByBlock.{turned_stays}
use Rattle.coap_client.proofs.Facts.Turning.Moves.{releases_none}
use Rattle.coap_client_laws.proofs.Uploading.SentSoFar.{IsFresh, Sends, all_behind, fresh_call, fresh_later, heard_by}
use Rattle.coap_client_laws.proofs.Uploading.SentSoFar.{key_ran, map_all, one_if, quiet_ran, unsent}
use Rattle.coap_client_laws.proofs.Uploading.NextSent.{next}

module _ (sizes : Sizes) (server : Endpoint) (setup : Setup) where
  -- what is handed in
  module _ (t : List Call) (now w : ℕ) (sent : L.Answer) (token : Result (List ℕ) AskRefusal) (kept : Bool)
      (e : Effect) (input : E.Call) (law : X.AskerLaw server setup
      (done_for e (max (own_of sizes t).clock now) w sent token kept input ++ lower_of sizes t)) where
    abbrev moment : ℕ
    moment = max (own_of sizes t).clock now

    abbrev x1 : E.Own
    x1 = P.after (beneath server sizes setup t) input

    abbrev later : List E.Call
    later = deeds (close moment e token).deed (close moment e token).own moment w sent token kept

    abbrev first : List E.Call
    first = deeds e.deed e.own moment w sent token kept

    right : P.IsRight (beneath server sizes setup t) input × AreRight x1 (later ++ first)
    right = done_right (beneath server sizes setup t) later first input
        (law_front server setup (later ++ (first ++ input ∷ [])) (lower_of sizes t) law)

    behind : (X.own_of server setup (done_for e moment w sent token kept input ++ lower_of sizes t)).running
        ≡ (ran x1 (later ++ first)).running
    behind = ap (λ (y : E.Own). y.running) (own_ran server setup (later ++ (first ++ input ∷ [])) (lower_of sizes t)
        ∙ done_ran (beneath server sizes setup t) later first input)

    quiet_behind : ((op : Operation) → e.deed ≡ Asks op → ⊥)
        → (X.own_of server setup (done_for e moment w sent token kept input ++ lower_of sizes t)).running ≡ x1.running
    quiet_behind quiet = behind ∙ quiet_ran x1 e moment w sent kept token e.deed refl quiet

    key_behind : (op : Operation) (key : List ℕ) → e.deed ≡ Asks op → token ≡ Ok key → (y : Exchange)
        → (X.own_of server setup (done_for e moment w sent token kept input ++ lower_of sizes t)).running ≡ Some y
        → y.token ≡ key
    key_behind op key is given y runs = key_ran x1 e moment w sent kept token e.deed right.1 op key is given y
        (sym behind ∙ runs)

  stays_by : (before mid after : Option Exchange) → after ≡ mid → TokenStays before mid → TokenStays before after
  stays_by before mid after same f y is = f y (sym same ∙ is)

  came_heard : (before now : Option Exchange) (event : Option Event) (m : Message) → Came before now event
      → heard_in event ≡ Some m → (e : Exchange) × (before ≡ Some e) × (m.token ≡ e.token)
  came_heard before now (Some (event_of.Answer a)) m c is = let same : a
      ≡ m = cc is in (c.0, c.1, ap (λ (z : Message). z.token) (sym same) ∙ c.2)
  came_heard before now _ m c is = absurd (cc is)

  module _ (t : List Call) (now : ℕ) (from : Endpoint) (bytes : List ℕ) (w : ℕ) (up : L.Answer) (settled : Bool)
      (event : Option Event) (sent : L.Answer) (token : Result (List ℕ) AskRefusal) (kept : Bool)
      (law : X.AskerLaw server setup (lower_of sizes (Feeds now from bytes w up settled event sent token kept ∷ t)))
    where
      abbrev feed : Call
      feed = Feeds now from bytes w up settled event sent token kept

      abbrev fed_effect : Effect
      fed_effect = happened (at now (own_of sizes t)) (max (own_of sizes t).clock now) event

      abbrev fed_input : E.Call
      fed_input = E.Receive (max (own_of sizes t).clock now) from bytes up settled event

      fed_came : Came (beneath server sizes setup t).running
          (P.after (beneath server sizes setup t) fed_input).running event
      fed_came = came (beneath server sizes setup t) from _ up event
          (right t now w sent token kept fed_effect fed_input law).0

      hears_as : (m : Message) → heard_in event ≡ Some m → hears feed ≡ Some m
      hears_as m is = by event is
        where
          by : (e : Option Event) → heard_in e ≡ Some m
              → hears (Feeds now from bytes w up settled e sent token kept) ≡ Some m
          by (Some (event_of.Answer a)) is = is
          by _ is = absurd (cc is)

      pub fed_hear : heard_by sizes server setup t feed (heard_in event)
      fed_hear m is = (
        hears_as m is,
        came_heard (beneath server sizes setup t).running
            (P.after (beneath server sizes setup t) fed_input).running event m fed_came is,
      )

      fed_sends : Known server sizes setup t → Known server sizes setup (feed ∷ t) → Sends sizes server setup t →
          Sends sizes server setup (feed ∷ t)
      fed_sends k now_known h =
          let e : Effect = fed_effect in
          let g = goes_fed server sizes setup t now from bytes w up settled event sent token kept k law in
          next sizes server setup t feed now e token h (heard_in event) fed_hear
          (fed server sizes setup t now from bytes w up settled event sent token kept k law).taken_is
          (happened_runs (at now (own_of sizes t)) (max (own_of sizes t).clock now) event)
          (happened_from (at now (own_of sizes t)) (max (own_of sizes t).clock now) event) g.asks
          (λ quiet. stays_by _ _ _ (quiet_behind t now w sent token kept e fed_input law quiet)
          (came_stays _ _ event fed_came)) now_known e.deed token refl
          (key_behind t now w sent token kept e fed_input law) refl refl refl

  module _ (t : List Call) (now w : ℕ) (below : L.Answer) (turn : Turn) (sent : L.Answer)
      (token : Result (List ℕ) AskRefusal) (kept answer : Bool)
      (law : X.AskerLaw server setup (lower_of sizes (Ticks now w below turn sent token kept answer ∷ t))) where
    abbrev tick : Call
    tick = Ticks now w below turn sent token kept answer

    pub no_hear : heard_by sizes server setup t tick None
    no_hear m is = absurd (cc is)

    ticked_sends : Known server sizes setup t → Known server sizes setup (tick ∷ t) → Sends sizes server setup t →
        Sends sizes server setup (tick ∷ t)
    ticked_sends k now_known h =
        let m : ℕ = max (own_of sizes t).clock now in
        let s : Own = at now (own_of sizes t) in
        let e : Effect = passes s m turn in
        let i : E.Call = E.Ticks m below turn in
        let g = goes_ticked server sizes setup t now turn k in
        next sizes server setup t tick now e token h None no_hear (ticked server sizes setup t now w below turn
        sent token kept answer k
        law).taken_is (passes_runs s m turn) (passes_from s m turn) g.asks
        (λ quiet. stays_by _ _ _ (quiet_behind t now w sent token kept e i law quiet)
        (turned_stays (beneath server sizes setup t).running turn)) now_known e.deed token refl
        (key_behind t now w sent token kept e i law) refl refl refl

  same_stays : (x y : Option Exchange) → y ≡ x → TokenStays x y
  same_stays x y same e is = (e, sym same ∙ is, refl)

  -- the number that is given next was never sent
  given : (t : List Call) (c : Call) (op : Operation) → sends (own_of sizes t) c ≡ None
      → (own_of sizes (c ∷ t)).queue ≡ (own_of sizes t).queue ++ op ∷ []
      → (own_of sizes (c ∷ t)).running ≡ (own_of sizes t).running
      → beneath server sizes setup (c ∷ t) ≡ beneath server sizes setup t
      → ((k : ℕ) → nat_lt k (own_of sizes t).taken ≡ true → nat_lt k (own_of sizes (c ∷ t)).taken ≡ true)
      → ((k : ℕ) → nat_lt k (own_of sizes t).taken ≡ true → in_op k op ≡ 0) → IsFresh (c ∷ t) op → Sends sizes
      server setup t
      → Sends sizes server setup (c ∷ t)
  given t c op none queue running same more apart fresh h =
      unsent sizes server setup t c none (inr (inr running)) (same_stays _ _ (ap (λ (y : E.Own). y.running) same))
      (subst (AllOf (IsFresh (c ∷ t))) (sym queue)
      (all_behind (IsFresh (c ∷ t)) (own_of sizes t).queue op
      (map_all (IsFresh t) (IsFresh (c ∷ t)) (fresh_later t c) (own_of sizes t).queue h.fresh) fresh))
      (λ k. elim (h.waits k) [
        | inl n ↦ inl n
        | inr v ↦ inr (
          (let a = ap (in_queue k) queue in let b = in_queue_append k (own_of sizes t).queue (op ∷ []) in let d =
              v.0 in let f = apart k v.1 in omega (arith, a, b, d, f)),
          more k v.1,
        )
      ]) h

  plain_sends : (t : List Call) (c : Call) → sends (own_of sizes t) c ≡ None
      → (own_of sizes (c ∷ t)).queue ≡ (own_of sizes t).queue
      → (own_of sizes (c ∷ t)).running ≡ (own_of sizes t).running
      → (own_of sizes (c ∷ t)).taken ≡ (own_of sizes t).taken
      → (beneath server sizes setup (c ∷ t)).running ≡ (beneath server sizes setup t).running → Sends sizes server
      setup t → Sends sizes server setup (c ∷ t)
  plain_sends t c none queue running taken same h =
      unsent sizes server setup t c none (inr (inr running)) (same_stays _ _ same)
      (subst (AllOf (IsFresh (c ∷ t))) (sym queue)
      (map_all (IsFresh t) (IsFresh (c ∷ t)) (fresh_later t c) (own_of sizes t).queue h.fresh))
      (λ k. elim (h.waits k) [ inl n ↦ inl n | inr v ↦ inr (ap (in_queue k) queue ∙ v.0, ap (nat_lt k) taken ∙ v.1) ])
      h

  most_one : (b : Bool) → one_if b ≤ 1
  most_one true = omega arith
  most_one false = omega arith

  -- a number that was given is not that of the next
  given_apart : (t : List Call) (c : Call) (op : Operation)
      → (own_of sizes (c ∷ t)).queue ≡ (own_of sizes t).queue ++ op ∷ []
      → (own_of sizes (c ∷ t)).running ≡ (own_of sizes t).running
      → (own_of sizes (c ∷ t)).observations ≡ (own_of sizes t).observations
      → Known server sizes setup t → Known server sizes setup (c ∷ t) → (k : ℕ) → gone sizes k t ≤ gone sizes k (c
      ∷ t)
      → nat_lt k (own_of sizes t).taken ≡ true → in_op k op ≡ 0
  given_apart t c op queue running observations before now k more b =
      let a0 = before.one k in
      let a1 = now.one k in
      let f = ap (λ x. one_if x) b in
      let g = most_one (nat_lt k (own_of sizes (c ∷ t)).taken) in
      let q = ap (in_queue k) queue in
      let q2 = in_queue_append k (own_of sizes t).queue (op ∷ []) in
      let r = ap (in_running k) running in
      let o = ap (in_observations k) observations in
      omega (arith, a0, a1, f, g, q, q2, r, o, more)

  lt_next : (k n : ℕ) → nat_lt k n ≡ true → nat_lt k (n + 1) ≡ true
  lt_next k n h = let a = ltb-true k n h in lt-ltb k (n + 1) (omega (arith, a))

  pub all_sends : (t : List Call) → ClientRows sizes t → X.AskerLaw server setup (lower_of sizes t) → Sends sizes
      server setup t
  all_sends [] rows law = record { fresh = tt; waits = λ k. inl refl; tracked = tt }
  all_sends (Calls now r (Err why) ∷ t) rows law =
      plain_sends t (Calls now r (Err why)) refl refl refl refl refl (all_sends t rows.1 law)
  all_sends (Calls now r (Ok k) ∷ t) rows law =
      let c : Call = Calls now r (Ok k) in
      let op : Operation = calling (own_of sizes t).sizes k r in
      given t c op refl refl refl refl (λ i b. lt_next i (own_of sizes t).taken b)
      (λ i b. given_apart t c op refl refl refl (known server sizes setup t rows.1 law)
      (known server sizes setup (c ∷ t) rows law) i (omega arith) b)
      (fresh_call t now (own_of sizes t).sizes k r r.method) (all_sends t rows.1 law)
  all_sends (Observes now path (Err why) ∷ t) rows law =
      plain_sends t (Observes now path (Err why)) refl refl refl refl refl (all_sends t rows.1 law)
  all_sends (Observes now path (Ok k) ∷ t) rows law =
      let c : Call = Observes now path (Ok k) in
      given t c (Registering k path) refl refl refl refl (λ i b. lt_next i (own_of sizes t).taken b)
      (λ i b. given_apart t c (Registering k path) refl refl refl (known server sizes setup t rows.1 law)
      (known server sizes setup (c ∷ t) rows law) i (omega arith) b) tt (all_sends t rows.1 law)
  all_sends (Cancels now k (Some why) ∷ t) rows law =
      plain_sends t (Cancels now k (Some why)) refl refl refl refl refl (all_sends t rows.1 law)
  all_sends (Cancels now k None ∷ t) rows law =
      given t (Cancels now k None) (Cancelling k) refl refl refl refl (λ i b. b) (λ i b. refl) tt
      (all_sends t rows.1 law)
  all_sends (Forgets k kept false ∷ t) rows law =
      plain_sends t (Forgets k kept false) refl refl refl refl refl (all_sends t rows.1 law)
  all_sends (Forgets k kept true ∷ t) rows law =
      let c : Call = Forgets k kept true in
      let s : Own = own_of sizes t in
      let h = all_sends t rows.1 (law_back server setup (lower s c) (lower_of sizes t) law) in
      let d : Deed = releases (observation_of k s.observations) in
      let same = ap (λ (y : E.Own). y.running) (own_ran server setup (deeds d s 0 0 L.Nothing (Ok []) kept)
      (lower_of sizes t)) ∙ quiet_deeds 0 0 L.Nothing kept (Ok []) d s (beneath server sizes setup t)
      (releases_none (observation_of k s.observations)) in
      unsent sizes server setup t c refl (inr (inl (k, refl))) (same_stays _ _ same)
      (all_uncancelled k (IsFresh (c ∷ t)) s.queue
      (map_all (IsFresh t) (IsFresh (c ∷ t)) (fresh_later t c) s.queue h.fresh))
      (λ i. elim (h.waits i) [ inl n ↦ inl n | inr v ↦ inr (in_uncancelled i k s.queue ∙ v.0, v.1) ]) h
  all_sends (NextOut answer ∷ t) rows law = plain_sends t (NextOut answer) refl refl refl refl refl
      (all_sends t rows.1 law.1)
  all_sends (NextReport answer ∷ t) rows law =
      plain_sends t (NextReport answer) refl refl refl refl refl (all_sends t rows.1 law)
  all_sends (Asked answer ∷ t) rows law = plain_sends t (Asked answer) refl refl refl refl refl
      (all_sends t rows.1 law)
  all_sends (Feeds now from bytes w up settled event sent token kept ∷ t) rows law =
      let c : Call = Feeds now from bytes w up settled event sent token kept in
      let under = law_back server setup (lower (own_of sizes t) c) (lower_of sizes t) law in
      fed_sends t now from bytes w up settled event sent token kept law (known server sizes setup t rows.1 under)
      (known server sizes setup (c ∷ t) rows law) (all_sends t rows.1 under)
  all_sends (Ticks now w below turn sent token kept answer ∷ t) rows law =
      let c : Call = Ticks now w below turn sent token kept answer in
      let under = law_back server setup (lower (own_of sizes t) c) (lower_of sizes t) law in
      ticked_sends t now w below turn sent token kept answer law (known server sizes setup t rows.1 under)
      (known server sizes setup (c ∷ t) rows law) (all_sends t rows.1 under)
