-- From the events of a run to the calls of its client.
use Rattle.std.proofs.Common.{◌≡◌, inl, inr, ◌≤◌, ℕ, ◌+◌, Bool, true, false, cond, List, [], ◌∷◌, ◌++◌}
use Rattle.std.proofs.Common.{length, map, refl, ap, sym, subst, ◌∙◌, arith, append_assoc, Some, None}
use Rattle.coap_types.specs.Past.{Always}
use Rattle.coap_types.specs.declared.endpoint.Endpoint.{Endpoint}
use Rattle.coap_layer.specs.Trace.{Packet}
use Rattle.coap_layer.specs.declared.setup.Setup.{Setup}
use Rattle.coap_block.specs.Sizes.{Sizes}
use Rattle.coap_client.specs.Law.{ClientLaw, own_of}
use Rattle.coap_client.specs.Own.{Own}
use Rattle.coap_client.specs.Trace as C
use Rattle.coap_client.specs.Trace.{Call, Calls, Observes, Cancels, Forgets, Feeds, Ticks, NextOut, NextReport, Asked}
use Rattle.coap_client_laws.specs.Follows.Clock.{moment_of}
use Rattle.coap_client_laws.proofs.Facts.Laws.{clock_is, back}
use Rattle.coap_promise.specs.AtAnyTime.{Legal, IsLegal, MayCome, Rise}
use Rattle.coap_promise.specs.Clocks.{Clocks}
use Rattle.coap_promise.proofs.Facts.Delivery.ClientInTime.{IsAt}
use Rattle.coap_promise.proofs.Facts.Delivery.ClientTurns.{turn_calls, all_at}
use Rattle.coap_promise.proofs.Facts.Delivery.EntriesInTime.{Every}
use Rattle.coap_promise.proofs.Facts.Delivery.ServerTurns.{turn_calls as server_turn_calls}
use Rattle.coap_promise.proofs.Paced.GivenOutBefore.{side, OfAnEnd}
use Rattle.coap_record.specs.Events.{Config, Event, TickClient}
use Rattle.coap_record.specs.Record.{Turn, RecordOf, Makes, OnClient, AreTicks, ClientTick}
use Rattle.coap_record.specs.Record.{entries_of, client_of}
use Rattle.coap_record.proofs.Facts.CallsOfEnds.{client_client, client_server}
use Rattle.coap_given_back.specs.GivenBack.{AreGivenBackInLine}
use Rattle.coap_given_back.specs.InRuns as run
use Rattle.coap_given_back.specs.KeepsUp as client
use Rattle.coap_given_back.specs.KeepsUp.{has_moment}
use Rattle.coap_given_back.proofs.Young.Beneath.{young}

moment_by : (at : ℕ) (s : Own) (c : Call) → IsAt at c → s.clock ≤ at → moment_of s c ≤ at
moment_by at s (Calls now r answer) h le = omega (arith, h, le)
moment_by at s (Observes now path answer) h le = omega (arith, h, le)
moment_by at s (Cancels now number answer) h le = omega (arith, h, le)
moment_by at s (Feeds now from bytes word up settled event sent token kept) h le = omega (arith, h, le)
moment_by at s (Ticks now word below t sent token kept answer) h le = omega (arith, h, le)
moment_by at s _ h le = le

moment_from : (at : ℕ) (s : Own) (c : Call) → IsAt at c → has_moment c ≡ true → at ≤ moment_of s c
moment_from at s (Calls now r answer) h m = omega (arith, h)
moment_from at s (Observes now path answer) h m = omega (arith, h)
moment_from at s (Cancels now number answer) h m = omega (arith, h)
moment_from at s (Feeds now from bytes word up settled event sent token kept) h m = omega (arith, h)
moment_from at s (Ticks now word below t sent token kept answer) h m = omega (arith, h)
moment_from at s _ h m = absurd (cc m)

same_or : (b : Bool) (k m n : ℕ) → m ≤ n → cond b k m ≤ cond b k n
same_or true k m n le = omega arith
same_or false k m n le = le

next_later : (b : Bool) (k m next : ℕ) → (b ≡ true → m ≤ k) → m ≤ next → m ≤ cond b k next
next_later true k m next f le = f refl
next_later false k m next f le = le

module _ (server : Endpoint) (sizes : Sizes) (setup : Setup) (late : ℕ) where
  abbrev clock : List Call → ℕ
  clock t = client.clock server sizes setup t

  run_by : (at : ℕ) (cs t : List Call) → Every (IsAt at) cs → clock t ≤ at → clock (cs ++ t) ≤ at
  run_by at [] t h le = le
  run_by at (c ∷ cs) t h le =
      let k = run_by at cs t h.1 le in
      let is = clock_is (own_of sizes (cs ++ t)) c in
      let m = moment_by at (own_of sizes (cs ++ t)) c h.0 k in
      omega (arith, is, m)

  -- where each call that has a moment is no earlier
  abbrev From : ℕ → List Call → List Call → Type 0
  From m [] t = Unit {0}
  From m (c ∷ cs) t = (has_moment c ≡ true → m ≤ clock (c ∷ (cs ++ t))) × From m cs t

  from_at : (m at : ℕ) (cs t : List Call) → m ≤ at → Every (IsAt at) cs → From m cs t
  from_at m at [] t le h = tt
  from_at m at (c ∷ cs) t le h = (
    λ has. (
        let is = clock_is (own_of sizes (cs ++ t)) c in
        let k = moment_from at (own_of sizes (cs ++ t)) c h.0 has in
        omega (arith, is, k, le)),
    from_at m at cs t le h.1,
  )

  put_off : (a : ℕ) (t : List Call) (m n : ℕ) → m ≤ n → client.HasRested server sizes setup late a m t
      → client.HasRested server sizes setup late a n t
  put_off a [] m n le r = (let b = r.before in record {
    tick = r.tick;
    idle = r.idle;
    law = r.law;
    before = omega (arith, b, le);
    soon = r.soon;
  })
  put_off a (c ∷ t) m n le (inl r) = inl (let b = r.before in record {
    tick = r.tick;
    idle = r.idle;
    law = r.law;
    before = omega (arith, b, le);
    soon = r.soon;
  })
  put_off a (c ∷ t) m n le (inr h) = inr (put_off a t (cond (has_moment c) (clock (c ∷ t)) m)
      (cond (has_moment c) (clock (c ∷ t)) n) (same_or (has_moment c) (clock (c ∷ t)) m n le) h)

  lift : (a m : ℕ) (cs t : List Call) (next : ℕ) → From m cs t → m ≤ next
      → client.HasRested server sizes setup late a m t
      → client.HasRested server sizes setup late a next (cs ++ t)
  lift a m [] t next from le h = put_off a t m next le h
  lift a m (c ∷ cs) t next from le h =
      inr (lift a m cs t (cond (has_moment c) (clock (c ∷ (cs ++ t))) next) from.1
      (next_later (has_moment c) (clock (c ∷ (cs ++ t))) m next from.0 le) h)

  here_at : (a next : ℕ) (t : List Call) → client.RestsBy server sizes setup late a next t
      → client.HasRested server sizes setup late a next t
  here_at a next [] r = r
  here_at a next (c ∷ t) r = inl r

  -- while the calls of a turn are made it keeps up as at their beginning

  up_in : (from_ at : ℕ) (cs t : List Call) → Every (IsAt at) cs → client.KeepsUp server sizes setup late from_ at t
      → client.KeepsUp server sizes setup late from_ at (cs ++ t)
  up_in from_ at cs t h (inl k) = inl (lift at at cs t at (from_at at at cs t (omega arith) h) (omega arith) k)
  up_in from_ at cs t h (inr near) = inr near

  up_since : (from_ at : ℕ) (cs t : List Call) → Every (IsAt at) cs → clock t ≤ at
      → (from_ ≤ at → client.KeepsUp server sizes setup late from_ at t)
      → client.KeepsUpSince server sizes setup late from_ t
      → client.KeepsUpSince server sizes setup late from_ (cs ++ t)
  up_since from_ at [] t h le now k = k
  up_since from_ at (c ∷ cs) t h le now k = (
    λ has. (
        let is = clock_is (own_of sizes (cs ++ t)) c in
        let till = moment_by at (own_of sizes (cs ++ t)) c h.0 (run_by at cs t h.1 le) in
        let then = moment_from at (own_of sizes (cs ++ t)) c h.0 has in
        let same : at ≡ clock (c ∷ (cs ++ t)) = omega (arith, is, till, then) in
        subst (λ n. from_ ≤ n → client.KeepsUp server sizes setup late from_ n (cs ++ t)) same
        (λ later. up_in from_ at cs t h.1 (now later))),
    up_since from_ at cs t h.1 le now k,
  )

  -- a tick that does nothing, among the calls of a turn

  abbrev IsTaking : Call → Type 0
  IsTaking (NextOut answer) = Unit {0}
  IsTaking (NextReport answer) = Unit {0}
  IsTaking c = ⊥

  taking_from : (m : ℕ) (cs t : List Call) → Every IsTaking cs → From m cs t
  taking_from m [] t h = tt
  taking_from m (NextOut answer ∷ cs) t h = (λ has. absurd (cc has), taking_from m cs t h.1)
  taking_from m (NextReport answer ∷ cs) t h = (λ has. absurd (cc has), taking_from m cs t h.1)
  taking_from m (_ ∷ cs) t h = absurd h.0

  idle_here : (a at word next : ℕ) (d : Call) (s : List Call) → ClientTick at word false d
      → ClientLaw server sizes setup (d ∷ s) → clock s ≤ at → at ≤ next → a ≤ at + late
      → client.HasRested server sizes setup late a next (d ∷ s)
  idle_here a at word next d s k law le later soon =
      subst (λ z. client.HasRested server sizes setup late a next (z ∷ s)) (sym k.5)
      (inr (here_at a (clock (tick ∷ s)) s (record {
        tick = tick;
        idle = (at, word, k.0, k.1, k.2, k.3, k.4, refl);
        law = subst (λ z. ClientLaw server sizes setup (z ∷ s)) k.5 law;
        before = omega arith;
        soon = (let is = clock_is (own_of sizes s) tick in omega (arith, is, soon));
      })))
    where
      tick : Call
      tick = Ticks at word k.0 k.1 k.2 k.3 k.4 false

  outs_taking : (outs : List Packet) → Every IsTaking (map (λ p. NextOut (Some p)) outs)
  outs_taking [] = tt
  outs_taking (p ∷ outs) = (tt, outs_taking outs)

  reports_taking : (reports : List C.Reported) (rest : List Call) → Every IsTaking rest
      → Every IsTaking (map (λ r. NextReport (Some r)) reports ++ rest)
  reports_taking [] rest h = h
  reports_taking (r ∷ reports) rest h = (tt, reports_taking reports rest h)

  -- what is taken after the calls of a turn
  abbrev later : List Packet → List C.Reported → List Call
  later outs reports = NextReport None ∷ (map (λ r. NextReport (Some r)) reports
      ++ (NextOut None ∷ map (λ p. NextOut (Some p)) outs))

  later_is : (outs : List Packet) (reports : List C.Reported) (calls : List Call)
      → turn_calls outs reports calls ≡ later outs reports ++ calls
  later_is outs reports calls = ap (λ l. NextReport None ∷ l)
      (sym (append_assoc (map (λ r. NextReport (Some r)) reports) (NextOut None ∷ map (λ p. NextOut (Some p)) outs)
      calls))

  later_taking : (outs : List Packet) (reports : List C.Reported) → Every IsTaking (later outs reports)
  later_taking outs reports =
      (tt, reports_taking reports (NextOut None ∷ map (λ p. NextOut (Some p)) outs) (tt, outs_taking outs))

module _ (c : Clocks) (config : Config) (late : ℕ) where
  abbrev calls : List Turn → List Call
  calls turns = client_of (entries_of turns)

  abbrev now_at : List Turn → ℕ
  now_at past = c.client (length past)

  abbrev Law : List Call → Type 0
  Law t = ClientLaw config.addresses.server config.client_sizes config.client_setup t

  abbrev time : List Call → ℕ
  time t = client.clock config.addresses.server config.client_sizes config.client_setup t

  abbrev Rested : ℕ → ℕ → List Call → Type 0
  Rested a next t = client.HasRested config.addresses.server config.client_sizes config.client_setup late a next t

  pub record Facts (turns : List Turn) : Type 0 where
    pub two : config.addresses.client ≡ config.addresses.server → ⊥
    pub rise : Rise c
    pub made : Always (λ past (t : Turn). Makes config.addresses past t.event.at t.event.word t.event.what t.refused
        t.entries) turns
    pub legal : Always (IsLegal config.addresses c) turns
    pub law : Law (calls turns)

  -- the calls of the client in a turn, and its moment
  pub record OfTurn (turn : Turn) (past : List Turn) : Type 0 where
    pub here : List Call
    pub is : calls (turn ∷ past) ≡ here ++ calls past
    pub at : Every (IsAt (now_at past)) here

  of_turn : (turn : Turn) (past : List Turn) → OfAnEnd c (length past) turn.event.at turn.entries → OfTurn turn past
  of_turn turn past (inl s) =
      let cs = turn_calls s.0.on.outs s.0.on.reports s.0.calls in
      record {
        here = cs;
        is = ap (λ es. client_of (es ++ entries_of past)) s.0.on.is ∙ client_client cs (entries_of past);
        at = subst (λ n. Every (IsAt n) cs) (sym s.1)
            (all_at turn.event.at s.0.on.outs s.0.on.reports s.0.calls s.0.at);
      }
  of_turn turn past (inr s) =
      let cs = server_turn_calls s.0.on.outs s.0.calls in
      record {
        here = [];
        is = ap (λ es. client_of (es ++ entries_of past)) s.0.on.is ∙ client_server cs (entries_of past);
        at = tt;
      }

  turn_of : (turn : Turn) (past : List Turn) → Facts (turn ∷ past) → OfTurn turn past
  turn_of turn past f =
      of_turn turn past (side config.addresses f.two c past turn.event.at turn.event.word turn.refused turn.entries
      turn.event.what f.made.0 f.legal.0.comes)

  before : (turn : Turn) (past : List Turn) → Facts (turn ∷ past) → Facts past
  before turn past f =
      let o = turn_of turn past f in
      record {
        two = f.two;
        rise = f.rise;
        made = f.made.1;
        legal = f.legal.1;
        law = back config.addresses.server config.client_sizes config.client_setup o.here (calls past)
            (subst Law o.is f.law);
      }

  later_on : (turn : Turn) (past : List Turn) → Rise c → now_at past ≤ now_at (turn ∷ past)
  later_on turn past r = r.client (length past) (length (turn ∷ past)) (omega arith)

  -- the client's own clock is not past it
  time_by : (turns : List Turn) → Facts turns → time (calls turns) ≤ now_at turns
  time_by [] f = omega arith
  time_by (turn ∷ past) f =
      let o = turn_of turn past f in
      let k = time_by past (before turn past f) in
      let r = later_on turn past f.rise in
      let till = run_by config.addresses.server config.client_sizes config.client_setup late (now_at past) o.here
      (calls past) o.at k in
      subst (λ t. time t ≤ now_at (turn ∷ past)) (sym o.is) (omega (arith, till, r))

  -- through the turns

  through : (a : ℕ) (turn : Turn) (past : List Turn) → Facts (turn ∷ past) → (next : ℕ) → now_at (turn ∷ past) ≤ next
      → Rested a (now_at past) (calls past) → Rested a next (calls (turn ∷ past))
  through a turn past f next le h =
      let o = turn_of turn past f in
      let r = later_on turn past f.rise in
      subst (Rested a next) (sym o.is)
      (lift config.addresses.server config.client_sizes config.client_setup late a (now_at past) o.here (calls past)
      next
      (from_at config.addresses.server config.client_sizes config.client_setup late (now_at past) (now_at past) o.here
      (calls past) (omega arith) o.at) (omega (arith, r, le)) h)

  rest_here : (a next : ℕ) (turns : List Turn) → Facts turns → now_at turns ≤ next → run.RestsSo c config late a turns
      → Rested a next (calls turns)
  rest_here a next turns f le r =
      let k = r.idle in
      let w = k.0 in
      let i = k.1 in
      here_at config.addresses.server config.client_sizes config.client_setup late a next (calls turns)
      (by w i.0 i.1 i.2 i.3 i.4 i.5)
    where
      by : (w : ℕ) (below : _) (turn : _) (sent : _) (token : _) (kept : Bool)
          → r.tick ≡ Ticks r.now w below turn sent token kept false
          → client.RestsBy config.addresses.server config.client_sizes config.client_setup late a next (calls turns)
      by w below turn sent token kept is =
          let tick : Call = Ticks r.now w below turn sent token kept false in
          let m = clock_is (own_of config.client_sizes (calls turns)) tick in
          let t = time_by turns f in
          let b = r.before in
          let s = r.soon in
          record {
            tick = tick;
            idle = (r.now, w, below, turn, sent, token, kept, refl);
            law = subst (λ z. Law (z ∷ calls turns)) is r.law;
            before = omega (arith, m, t, b, le);
            soon = omega (arith, m, s);
          }

  rested : (a : ℕ) (turns : List Turn) → Facts turns → run.HasRested c config late a turns → (next : ℕ)
      → now_at turns ≤ next → Rested a next (calls turns)
  rested a [] f r next le = rest_here a next [] f le r
  rested a (turn ∷ past) f (inl r) next le = rest_here a next (turn ∷ past) f le r
  rested a (turn ∷ past) f (inr h) next le =
      through a turn past f next le (rested a past (before turn past f) h (now_at past) (omega arith))

  -- at a tick
  ticks_here : (a : ℕ) (turn : Turn) (past : List Turn) → Facts (turn ∷ past) → (next : ℕ)
      → now_at (turn ∷ past) ≤ next → turn.event.what ≡ TickClient → turn.refused ≡ false
      → a ≤ now_at past + late → Rested a next (calls (turn ∷ past))
  ticks_here a turn past f next le what given soon =
      by m.0 m.1 m.2
    where
      m : Makes config.addresses past turn.event.at turn.event.word TickClient false turn.entries
      m = subst (λ b. Makes config.addresses past turn.event.at turn.event.word TickClient b turn.entries) given
          (subst (λ w. Makes config.addresses past turn.event.at turn.event.word w turn.refused turn.entries) what
          f.made.0)

      shown : now_at past ≡ turn.event.at
      shown = subst (λ w. MayCome config.addresses c past turn.event.at w) what
          f.legal.0.comes

      by : (cs : List Call) → AreTicks (ClientTick turn.event.at turn.event.word) false cs → OnClient cs turn.entries
          → Rested a next (calls (turn ∷ past))
      by [] ticks on = absurd ticks
      by (d ∷ earlier) ticks on =
          let all = turn_calls on.outs on.reports (d ∷ earlier) in
          let es : List Call = later config.addresses.server config.client_sizes config.client_setup late on.outs
          on.reports
          in
          let s : List Call = earlier ++ calls past in
          let is : calls (turn ∷ past) ≡ es ++ (d ∷ s) =
          ap (λ z. client_of (z ++ entries_of past)) on.is ∙ (client_client all (entries_of past)
          ∙ (ap (λ l. l ++ calls past) (later_is config.addresses.server config.client_sizes config.client_setup late
          on.outs on.reports (d ∷ earlier)) ∙ append_assoc es (d ∷ earlier) (calls past))) in
          let law : Law (d ∷ s) = back config.addresses.server config.client_sizes config.client_setup es (d ∷ s)
          (subst Law is f.law) in
          let r = later_on turn past f.rise in
          let t = time_by past (before turn past f) in
          let at_all : Every (IsAt (now_at past)) earlier = each_at earlier ticks.1 in
          let till = run_by config.addresses.server config.client_sizes config.client_setup late (now_at past) earlier
          (calls past) at_all t in
          let here = idle_here config.addresses.server config.client_sizes config.client_setup late a turn.event.at
          turn.event.word next d s ticks.0 law (omega (arith, till, shown)) (omega (arith, r, le, shown))
          (omega (arith, soon, shown)) in
          subst (Rested a next) (sym is)
          (lift config.addresses.server config.client_sizes config.client_setup late a next es (d ∷ s) next
          (taking_from config.addresses.server config.client_sizes config.client_setup late next es (d ∷ s)
          (later_taking config.addresses.server config.client_sizes config.client_setup late on.outs on.reports))
          (omega arith) here)
        where
          each_at : (ts : List Call) → Always (λ p t. ClientTick turn.event.at turn.event.word true t) ts
              → Every (IsAt (now_at past)) ts
          each_at [] h = tt
          each_at (t ∷ ts) h = (
            subst (IsAt (now_at past)) (sym h.0.5) (sym shown),
            each_at ts h.1,
          )

  ticked : (a : ℕ) (turns : List Turn) → Facts turns → run.HasTicked c config late a turns → (next : ℕ)
      → now_at turns ≤ next → Rested a next (calls turns)
  ticked a [] f h next le = absurd h
  ticked a (turn ∷ past) f (inl h) next le = ticks_here a turn past f next le h.0 h.1 h.2
  ticked a (turn ∷ past) f (inr h) next le =
      through a turn past f next le (ticked a past (before turn past f) h (now_at past) (omega arith))

  up : (from_ : ℕ) (turns : List Turn) → Facts turns → run.KeepsUp c config late from_ (now_at turns) turns
      → client.KeepsUp config.addresses.server config.client_sizes config.client_setup late from_ (now_at turns)
      (calls turns)
  up from_ turns f (inl h) = inl (ticked (now_at turns) turns f h (now_at turns) (omega arith))
  up from_ turns f (inr (inl h)) = inl (rested (now_at turns) turns f h (now_at turns) (omega arith))
  up from_ turns f (inr (inr near)) = inr near

  since_up : (from_ : ℕ) (turns : List Turn) → Facts turns → run.KeepsUpSince c config late from_ turns
      → client.KeepsUpSince config.addresses.server config.client_sizes config.client_setup late from_ (calls turns)
  since_up from_ [] f h = tt
  since_up from_ (turn ∷ past) f h =
      let o = turn_of turn past f in
      let g = before turn past f in
      subst (client.KeepsUpSince config.addresses.server config.client_sizes config.client_setup late from_) (sym o.is)
      (up_since config.addresses.server config.client_sizes config.client_setup late from_ (now_at past) o.here
      (calls past) o.at (time_by past g) (λ le. up from_ past g (h.0 le)) (since_up from_ past g h.1))

  module _ (in_line : (t : List Call) → Law t
      → AreGivenBackInLine config.addresses.server config.client_sizes config.client_setup late t) where
    pub given_back : (turns : List Turn) → Facts turns → run.AreGivenBack c config late turns
    given_back [] f = tt
    given_back (turn ∷ past) f =
        let g = before turn past f in (
          λ x at waiting further taken keeps over. (
              let le : at ≤ now_at past = omega (arith, over) in
              in_line (calls past) g.law x at waiting further (now_at past) taken (
                since_up at past g keeps.1,
                time_by past g,
                up at past g (keeps.0 le),
              ) over),
          given_back past g,
        )

-- each exchange is young
pub young_in_runs : (c : Clocks) (config : Config) (late : ℕ) (turns : List Turn) → Facts c config late turns
    → run.AreYoung c config late turns
young_in_runs c config late [] f = tt
young_in_runs c config late (turn ∷ past) f =
    let g = before c config late turn past f in (
      λ from_ since is keeps later. (
          let k = young config.addresses.server config.client_sizes config.client_setup late (calls c config late past)
          g.law from_ (since_up c config late from_ past g keeps.1) since is (now_at c config late past)
          (time_by c config late past g) (up c config late from_ past g (keeps.0 later)) in
          omega (arith, k)),
      young_in_runs c config late past g,
    )

pub facts : (c : Clocks) (config : Config) (late : ℕ) (events : List Event) (turns : List Turn)
    → RecordOf config events turns → Legal c config turns → Facts c config late turns
facts c config late events turns run_it legal = record {
  two = legal.range.addresses.two;
  rise = legal.rise;
  made = run_it.made;
  legal = legal.events;
  law = run_it.client;
}
