-- The last value of an observation that runs alone in a smooth run is what its path holds, once that has stood for
-- 5,000 ms.
use Rattle.std.proofs.Common.{◌≡◌, ◌⊎◌, inl, inr, ◌≤◌, ℕ, ◌+◌, Option, Some, None, List, []}
use Rattle.std.proofs.Common.{◌∷◌, ◌++◌, refl, ap, sym}
use Rattle.std.proofs.Common.{subst, ◌∙◌, arith, append_assoc}
use Rattle.std.specs.Option.{option_map}
use Rattle.coap_types.specs.Past.{Sometime, Always}
use Rattle.coap_types.proofs.Facts.Traces.{Always_back, Sometime_map, all_of_append}
use Rattle.coap_resource.specs.Content.{Held}
use Rattle.coap_client_laws.specs.Follows.Ended.{WasCancelled}
use Rattle.coap_client_laws.specs.Follows.LastValue.{shown_by}
use Rattle.coap_client_laws.specs.Follows.Newer.{Newly, notifies}
use Rattle.coap_client_laws.specs.Follows.Notified.{newest, WasRegistered}
use Rattle.coap_client_laws.specs.Follows.OfObservations.{Observed}
use Rattle.coap_client.specs.Law as C
use Rattle.coap_client.specs.Own.{Operation, Registering, Fetching, Cancelling}
use Rattle.coap_client.specs.Trace.{Report}
use Rattle.coap_client_laws.proofs.Facts.Watches.{last_is_newest}
use Rattle.coap_server_laws.specs.Follows.Told.{ServesPair, pair_of, TellsIn, IsUnder}
use Rattle.coap_server.specs.Follows.Tells.{Pair, Way}
use Rattle.coap_server.specs.Trace as S
use Rattle.coap_server_laws.proofs.Facts.EachCall.{are_under}
use Rattle.coap_smooth.specs.Current.{settles, FitsABlock, HoldsFor, WasShown, Watches, last_shown, shown_as}
use Rattle.coap_smooth.specs.Current.{LastIsCurrent, Alone}
use Rattle.coap_record.specs.Events.{Config}
use Rattle.coap_record.specs.Record.{Entry, Turn, entries_of, client_of, server_trace}
use Rattle.coap_promise.specs.Words.{holds_at}
use Rattle.coap_promise.proofs.Facts.Observations.Chain.{newest_taken}
use Rattle.coap_promise.proofs.Facts.Observations.Following.{told_since}
use Rattle.coap_promise.proofs.Facts.Observations.Positions.{client_entries}
use Rattle.coap_layer.specs.Clocks.{turned}
use Rattle.coap_promise.proofs.Facts.Observations.Taken.{HeardTold, in_con, in_ack, in_non, TakenTold, taken_told}
use Rattle.coap_promise.proofs.Facts.Reports.FormatsSet.{formats_in}
use Rattle.coap_smooth.proofs.Smoothly.Answers.ConsOfOpen.{calls_before}
use Rattle.coap_smooth.specs.NoticesTaken.{IsForIt}
use Rattle.coap_smooth.proofs.Watching.Notifications.ConTells.{one_token}
use Rattle.coap_smooth.proofs.Watching.Values.Known.{Known, Parts}
use Rattle.coap_smooth.proofs.Watching.Notifications.Newest.{more_newest, registered}
use Rattle.coap_smooth.proofs.Watching.Values.SmoothBefore.{registered_before, SmoothRun, lawful_of, run_before}
use Rattle.coap_smooth.proofs.Watching.Values.SmoothBefore.{run_back}
use Rattle.coap_smooth.proofs.Watching.Values.SmoothBefore.{watched_before}
use Rattle.coap_smooth.proofs.Watching.Values.Settled.{Settled, settled, HoldsThrough}
use Rattle.coap_smooth.proofs.Watching.Values.TakenThen.{shows_now}
use Rattle.coap_smooth.proofs.Watching.Ticks.TickTells.{Settles, tick_tells}
use Rattle.coap_smooth.proofs.Watching.Ticks.ToldHeld.{ToldHeld}

-- the newest, where a value was reported
is_some_newest : (o : Option Newly) (value : Report) → option_map shown_by o ≡ Some value → (n : Newly) × (o ≡ Some n)
is_some_newest None value h = absurd (cc h)
is_some_newest (Some n) value h = (n, refl)

holds_first : (config : Config) (x : Observed) (held : Held) (front base : List Turn)
    → HoldsThrough config x held front base → holds_at config x.path (entries_of base) ≡ Some held
holds_first config x held [] base h = h
holds_first config x held (t ∷ front) base h = holds_first config x held front base h.1

no_cancel : (x : Observed) (op : Operation) → IsForIt x op → op ≡ Cancelling x.number → ⊥
no_cancel x op (inl h) is = let e : Registering x.number x.path ≡ Cancelling x.number = sym h ∙ is in cc e
no_cancel x op (inr h) is = let e : Fetching x.number ≡ Cancelling x.number = sym h ∙ is in cc e

module _ (config : Config) (x : Observed) (parts : Parts config x)
    (limits : config.limits.body ≤ config.client_sizes.limit) where
  none_cancelled : (turns : List Turn) → SmoothRun config turns → Alone x (client_of (entries_of turns))
      → WasCancelled config.client_sizes x.number (client_of (entries_of turns)) → ⊥
  none_cancelled turns r alone w =
      no_cancel x w.sending.operation (parts.sent (client_of (entries_of turns)) r.run.client alone w.sending w.sent)
      w.cancels

  -- what was taken was told under a registration that was made
  served : (turns : List Turn) → SmoothRun config turns → (n : Newly)
      → newest config.client_sizes x.number (client_of (entries_of turns)) ≡ Some n
      → Sometime (ServesPair config.limits config.server_szx (record {
        to = config.addresses.client;
        token
            = n.message.token;
      }))
      (server_trace config (entries_of turns))
  served turns r n is = by told.told
    where
      es : List Entry
      es = entries_of turns

      calls : List S.Call
      calls = server_trace config es

      told : TakenTold config (turned (lawful_of config turns r).clocks) n es
      told = taken_told config r.legal.range.server_szx es (lawful_of config turns r)
          (formats_in config.addresses turns r.run.made r.legal.events) n
          (client_entries config (λ p b. notifies (C.own_of config.client_sizes p) b ≡ Some n) es
          (newest_taken config.client_sizes x.number (client_of es) n is))

      Pairs : List S.Call → S.Call → Type 0
      Pairs = ServesPair config.limits config.server_szx (record {
        to = config.addresses.client;
        token = n.message.token;
      })

      made : (way : Way) → Sometime (TellsIn config.limits config.server_szx way config.addresses.client n.message)
          calls → Sometime Pairs calls
      made way s = pairs calls (are_under config.limits config.server_szx config.server_setup calls r.run.server) s
        where
          pairs : (t : List S.Call) → Always (IsUnder config.limits config.server_szx) t
              → Sometime (TellsIn config.limits config.server_szx way config.addresses.client n.message) t
              → Sometime Pairs t
          pairs [] under h = absurd h
          pairs (c ∷ t) under (inr h) = inr (pairs t under.1 h)
          pairs (c ∷ t) under (inl h) =
              let same : pair_of config.limits config.server_szx h.told
              ≡ record { to = config.addresses.client; token = n.message.token } =
              ap {B = Pair} (λ z. record { to = z; token = h.told.token }) h.conveys.to_is
              ∙ ap {B = Pair} (λ z. record { to = config.addresses.client; token = z }) h.conveys.token_is in
              subst (λ p. Sometime (ServesPair config.limits config.server_szx p) (c ∷ t)) same
              (told_since config.limits config.server_szx config.server_setup t c h.told under.0 h.here)

      by : HeardTold config (turned (lawful_of config turns r).clocks) n.message n.mark.at es → Sometime Pairs calls
      by (in_con con from up s) = made _ (Sometime_map _ (TellsIn config.limits config.server_szx _
          config.addresses.client n.message)
          (λ p b h. h.0) calls s)
      by (in_ack s) = made _ s
      by (in_non s) = made _ (Sometime_map _ (TellsIn config.limits config.server_szx _ config.addresses.client
          n.message)
          (λ p b h. h.tells) calls s.told)

  known : (turn : Turn) (past : List Turn) → SmoothRun config (turn ∷ past)
      → Alone x (client_of (entries_of (turn ∷ past))) → FitsABlock config x.path (entries_of (turn ∷ past))
      → Watches config x.number (entries_of (turn ∷ past)) → Known config x turn past
  known turn past r alone fits watches =
      let old = run_before config turn past r in
      let before : Alone x (client_of (entries_of past)) = calls_before _ turn.entries (entries_of past) alone in
      let fits_before = Always_back _ turn.entries (entries_of past) fits in
      record {
        run = r;
        ids = parts.ids (turn ∷ past) r;
        there = parts.there (turn ∷ past) r alone;
        taken = parts.taken (turn ∷ past) r;
        of_it = parts.of_it past old before;
        requests = parts.requests past old before;
        notices = (parts.notices (turn ∷ past) r alone).0;
        watches = watched_before config x.number turn.entries (entries_of past) watches;
        none_cancelled = none_cancelled (turn ∷ past) r alone;
        none_cancelled_before = none_cancelled past old before;
        none_fetched = parts.none_fetched (client_of (entries_of past)) old.run.client
            (parts.have_all past old before fits_before limits);
        shown = parts.shown (turn ∷ past) r alone fits limits;
        rise = parts.rise (turn ∷ past) r;
        numbers = parts.numbers (turn ∷ past) r;
      }

  -- what is reported last is what the newest shows
  last : (turns : List Turn) → SmoothRun config turns → Alone x (client_of (entries_of turns))
      → FitsABlock config x.path (entries_of turns)
      → last_shown config x.number turns ≡ option_map shown_by
      (newest config.client_sizes x.number (client_of (entries_of turns)))
  last turns r alone fits =
      last_is_newest config.addresses.server config.client_sizes config.client_setup (client_of (entries_of turns))
      r.run.client x.number
      (parts.have_all turns r alone fits limits)

  module _ (held : Held) (turn : Turn) (newer : List Turn) (first : Turn) (older : List Turn)
      (r : SmoothRun config (turn ∷ (newer ++ first ∷ older)))
      (alone : Alone x (client_of (entries_of (turn ∷ (newer ++ first ∷ older)))))
      (fits : FitsABlock config x.path (entries_of (turn ∷ (newer ++ first ∷ older))))
      (watches : Watches config x.number (entries_of (turn ∷ (newer ++ first ∷ older))))
      (early : first.event.at + settles ≤ turn.event.at)
      (through : HoldsThrough config x held newer (first ∷ older)) (value : Report)
      (shown : last_shown config x.number (first ∷ older) ≡ Some value)
      (now : holds_at config x.path (entries_of (turn ∷ (newer ++ first ∷ older))) ≡ Some held) where
    abbrev base : List Turn
    base = first ∷ older

    abbrev past : List Turn
    past = newer ++ base

    abbrev es : List Entry
    es = entries_of (turn ∷ past)

    k : Known config x turn past
    k = known turn past r alone fits watches

    before : SmoothRun config past
    before = run_before config turn past r

    base_run : SmoothRun config base
    base_run = run_back config newer base before

    abbrev front : List Entry
    front = turn.entries ++ entries_of newer

    parts_are : es ≡ front ++ entries_of base
    parts_are = ap (λ l. turn.entries ++ l) (all_of_append (λ (t : Turn). t.entries) newer base)
        ∙ sym (append_assoc turn.entries (entries_of newer) (entries_of base))

    n0 : (n : Newly) × (newest config.client_sizes x.number (client_of (entries_of base)) ≡ Some n)
    n0 = is_some_newest _ value
        (sym (last base base_run
        (calls_before _ front (entries_of base) (subst (λ l. Alone x (client_of l)) parts_are alone))
        (Always_back _ front (entries_of base) (subst (FitsABlock config x.path) parts_are fits))) ∙ shown)

    n1 : (n : Newly) × (newest config.client_sizes x.number (client_of es) ≡ Some n)
    n1 = let m = more_newest config x front (entries_of base) n0.0 n0.1 in
        (m.0, ap (λ l. newest config.client_sizes x.number (client_of l)) parts_are ∙ m.1)

    -- all under one token
    token_at : (later at : List Entry) (token : List ℕ) → es ≡ later ++ at
        → WasRegistered config.client_sizes x.number token (client_of at) → token ≡ n1.0.message.token
    token_at later at token is w =
        one_token config x es (lawful_of config (turn ∷ past) r) token n1.0.message.token
        (subst (λ l. WasRegistered config.client_sizes x.number token (client_of l)) (sym is)
        (registered_before config x.number token later at w))
        (registered config x (turn ∷ past) r n1.0 n1.1)

    settles_here : Settles config x held n1.0.message.token base
    settles_here =
        let same = token_at front (entries_of base) n0.0.message.token parts_are
        (registered config x base base_run n0.0 n0.1) in
        record {
          holds = holds_first config x held newer base through;
          registered = subst (λ t. WasRegistered config.client_sizes x.number t (client_of (entries_of base))) same
              (registered config x base base_run n0.0 n0.1);
          newly = n0.0;
          is_newest = n0.1;
          served = subst (λ t. Sometime (ServesPair config.limits config.server_szx
              (record { to = config.addresses.client; token = t }))
              (server_trace config (entries_of base))) same (served base base_run n0.0 n0.1);
        }

    told : ToldHeld config held n1.0.message.token (first.event.at + 3001) (entries_of past)
    told = tick_tells config x held turn newer first older k early through n1.0.message.token settles_here

    pub is_current : last_shown config x.number (turn ∷ past) ≡ Some (shown_as held)
    is_current =
        last (turn ∷ past) r alone fits ∙ (ap (option_map shown_by) n1.1
        ∙ ap (λ v. Some v)
        (shows_now config x held turn past k now n1.0 n1.1 (first.event.at + 3001) (omega (arith, early)) told))

  here : (turn : Turn) (past : List Turn) → SmoothRun config (turn ∷ past)
      → Alone x (client_of (entries_of (turn ∷ past))) → FitsABlock config x.path (entries_of (turn ∷ past))
      → (held : Held)
      → HoldsFor config x.path held turn.event.at (turn ∷ past) → WasShown config x.number turn.event.at (turn ∷ past)
      → Watches config x.number (entries_of (turn ∷ past))
      → last_shown config x.number (turn ∷ past) ≡ Some (shown_as held)
  here turn past r alone fits held holds was watches = by holds.1 was
    where
      go : (s : Settled config x held turn.event.at past) → last_shown config x.number (turn ∷ past)
          ≡ Some (shown_as held)
      go s =
          subst (λ l. SmoothRun config (turn ∷ l) → Alone x (client_of (entries_of (turn ∷ l)))
          → FitsABlock config x.path (entries_of (turn ∷ l)) → Watches config x.number (entries_of (turn ∷ l))
          → holds_at config x.path (entries_of (turn ∷ l)) ≡ Some held
          → last_shown config x.number (turn ∷ l) ≡ Some (shown_as held)) (sym s.is)
          (λ r alone fits watches now. is_current held turn s.newer s.turn s.older r alone fits watches s.early s.holds
          s.shown.0 s.shown.1 now)
          r alone fits watches holds.0

      by : (turn.event.at + settles ≤ turn.event.at) ⊎ HoldsFor config x.path held turn.event.at past
          → WasShown config x.number turn.event.at (turn ∷ past)
          → last_shown config x.number (turn ∷ past) ≡ Some (shown_as held)
      by (inl never) w = absurd (omega (arith, never))
      by (inr k) (inl never) = absurd (let a = never.0 in omega (arith, a))
      by (inr k) (inr w) = go (settled config x held turn.event.at past k w)

  pub last_is_current : (turns : List Turn) → SmoothRun config turns → Alone x (client_of (entries_of turns))
      → FitsABlock config x.path (entries_of turns) → LastIsCurrent config x turns
  last_is_current [] r alone fits = tt
  last_is_current (turn ∷ past) r alone fits = (
    λ held holds was watches. here turn past r alone fits held holds was watches,
    last_is_current past (run_before config turn past r) (calls_before _ turn.entries (entries_of past) alone)
        (Always_back _ turn.entries (entries_of past) fits),
  )
