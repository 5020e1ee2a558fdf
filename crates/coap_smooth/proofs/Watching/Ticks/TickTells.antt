-- Where a path is settled, its observer was told what it holds 3,001 ms later at the latest: more than 2,000 ms after
-- that there is nobody who can be notified.
use Rattle.std.proofs.Common.{◌≡◌, inl, inr, ⊎_elim, ◌≤◌, ◌<◌, ℕ, ◌+◌, Bool, true, false, Some, List, []}
use Rattle.std.proofs.Common.{◌∷◌, ◌++◌, refl, ap, sym, subst, ◌∙◌, arith, append_assoc}
use Rattle.std.proofs.Math.Decide.{dec_le}
use Rattle.coap_types.specs.Past.{Ever, Sometime, Always}
use Rattle.coap_types.specs.SameEndpoint.{same_endpoint}
use Rattle.coap_types.proofs.Facts.Traces.{Ever_back, Sometime_back, all_of_append}
use Rattle.coap_layer.specs.Sends.{IsOpen}
use Rattle.coap_layer.specs.Trace as L
use Rattle.coap_layer.specs.Words.{Open, begun, outstanding}
use Rattle.coap_observe.specs.Observers.{Observer, registration}
use Rattle.coap_resource.specs.Content.{Held}
use Rattle.coap_client_laws.specs.Follows.Newer.{Newly}
use Rattle.coap_client_laws.specs.Follows.Notified.{newest, WasRegistered}
use Rattle.coap_client_laws.specs.Follows.OfObservations.{Observed}
use Rattle.coap_server_laws.specs.Follows.Adds.{call_adds}
use Rattle.coap_server.specs.Follows.Observes.{Notice}
use Rattle.coap_server_laws.specs.Follows.Told.{ServesPair}
use Rattle.coap_server.specs.Law.{own_of}
use Rattle.coap_server.specs.Trace as S
use Rattle.coap_server_laws.proofs.Facts.Laws as server_facts
use Rattle.coap_smooth.specs.Current.{settles, Watches}
use Rattle.coap_record.specs.Events.{Config}
use Rattle.coap_record.specs.Legal.{IsLegal}
use Rattle.coap_record.specs.Record.{Entry, OfClient, OfServer, Turn, entries_of, client_of, server_of, server_trace}
use Rattle.coap_record.specs.Record.{Setting, DelayOf, PlainOf, gives_it}
use Rattle.coap_smooth.specs.Smooth.{max_age}
use Rattle.coap_smooth.specs.TakenInTime.{TakenInTime}
use Rattle.coap_promise.specs.Words.{holds_at, last_at}
use Rattle.coap_promise.proofs.Facts.Delivery.HopsAreEntries.{server_layer, far_is}
use Rattle.coap_promise.proofs.Facts.Observations.Positions.{AtServer, located, server_entries}
use Rattle.coap_promise.proofs.Facts.Observations.Following.{split}
use Rattle.coap_promise.proofs.Facts.Observations.ToldThen.{begun_then}
use Rattle.coap_promise.proofs.Facts.Requests.HoldsChanges.{last_is}
use Rattle.coap_smooth.proofs.Smoothly.Answers.ConsOfOpen.{of_each}
use Rattle.coap_smooth.proofs.Smoothly.Requests.RequestOpen.{open_was_begun}
use Rattle.coap_smooth.proofs.Smoothly.Ticks.NothingIsLeft.{ForServer, ran, server_behind}
use Rattle.coap_smooth.proofs.Smoothly.Ticks.KeepsUp.{keeps_up_soon}
use Rattle.coap_smooth.proofs.Smoothly.Answers.OpenTo.{busy_or_not, open_to}
use Rattle.coap_smooth.specs.NoticesCome.{server_moment}
use Rattle.coap_smooth.specs.StillThere.{WasGone, StillThere}
use Rattle.coap_smooth.proofs.Watching.Notifications.ConTells.{con_tells, one_token}
use Rattle.coap_smooth.proofs.Watching.Values.Known.{Known}
use Rattle.coap_smooth.proofs.Watching.Notifications.Newest.{more_newest, registered}
use Rattle.coap_smooth.proofs.Watching.Ticks.NobodyThen.{NobodyThen, by_tick, by_rest}
use Rattle.coap_smooth.proofs.Watching.Notifications.NoticesTell.{tells_held}
use Rattle.coap_smooth.proofs.Watching.Values.SmoothBefore.{InFirst, InSecond, in_either, SmoothRun, stands_of}
use Rattle.coap_smooth.proofs.Watching.Values.SmoothBefore.{lawful_of, run_before}
use Rattle.coap_smooth.proofs.Watching.Values.SmoothBefore.{run_back}
use Rattle.coap_smooth.proofs.Watching.Values.SmoothBefore.{registered_before, trace_more, watched_before}
use Rattle.coap_smooth.proofs.Watching.Values.Settled.{both, HoldsThrough}
use Rattle.coap_smooth.proofs.Watching.Ticks.ToldHeld.{ToldHeld, IsAmong, among, current_told, clock_rises, told_more}
use Rattle.coap_smooth.proofs.Watching.Values.Unchanged.{still}

-- the entry that comes next after a position, and what holds of it and of those after it
next_with : (P : List Turn → Turn → Type 0) (Q : Turn → Type 0) (last : Turn) (front base : List Turn)
    → Always P (last ∷ (front ++ base)) → Always (λ p e. Q e) (last ∷ front) → (e : Turn) × P base e × Q e
next_with P Q last [] base all q = (last, all.0, q.0)
next_with P Q last (e ∷ front) base all q = next_with P Q e front base all.1 q.1

-- what stands at the position since which the path holds this
pub record Settles (config : Config) (x : Observed) (held : Held) (token : List ℕ) (base : List Turn) : Type 0 where
  pub holds : holds_at config x.path (entries_of base) ≡ Some held
  pub newly : Newly
  pub is_newest : newest config.client_sizes x.number (client_of (entries_of base)) ≡ Some newly
  pub registered : WasRegistered config.client_sizes x.number token (client_of (entries_of base))
  pub served : Sometime (ServesPair config.limits config.server_szx
      (record { to = config.addresses.client; token = token }))
      (server_trace config (entries_of base))

module _ (config : Config) (x : Observed) (held : Held) where
  -- the path holds this behind each of the turns
  holds_in : (after front base : List Turn) → HoldsThrough config x held (after ++ front) base
      → holds_at config x.path (entries_of (front ++ base)) ≡ Some held
  holds_in [] [] base h = h
  holds_in [] (t ∷ front) base h = h.0
  holds_in (a ∷ after) front base h = holds_in after front base h.1

  module _ (turn : Turn) (newer : List Turn) (first : Turn) (older : List Turn)
      (k : Known config x turn (newer ++ first ∷ older)) (early : first.event.at + settles ≤ turn.event.at)
      (through : HoldsThrough config x held newer (first ∷ older)) (token : List ℕ)
      (settles_here : Settles config x held token (first ∷ older)) where
    abbrev base : List Turn
    base = first ∷ older

    abbrev past : List Turn
    past = newer ++ base

    abbrev when : ℕ
    when = first.event.at + 2001

    base_run : SmoothRun config base
    base_run = run_back config newer base (run_before config turn past k.run)

    -- the position after which nobody can be notified
    rest : NobodyThen config first older turn early turn newer
    rest =
        let legal = k.run.legal.events in
        let standing = stands_of config past (run_before config turn past k.run) in
        ⊎_elim (λ t. by_tick config first older turn early turn newer legal standing k.ids.0 t)
        (λ r. by_rest config first older turn early turn newer legal k.ids.0 r)
        (keeps_up_soon config turn past legal k.run.smooth.smooth.goes when
        (Ever_back (λ (t : Turn). t.event.at < when) newer base (inl (omega arith))) (omega (arith, early)))

    abbrev now : List Turn
    now = rest.front ++ base

    whole : past ≡ rest.after ++ now
    whole = ap (λ l. l ++ base) rest.is ∙ append_assoc rest.after rest.front base

    abbrev front : List Entry
    front = entries_of rest.front

    parts : entries_of now ≡ front ++ entries_of base
    parts = all_of_append (λ (t : Turn). t.entries) rest.front base

    all_parts : entries_of past ≡ entries_of rest.after ++ entries_of now
    all_parts = ap entries_of whole ∙ all_of_append (λ (t : Turn). t.entries) rest.after now

    run_now : SmoothRun config now
    run_now = run_back config rest.after now (subst (SmoothRun config) whole (run_before config turn past k.run))

    law_now : ForServer config (entries_of now)
    law_now = run_now.run.server

    watched : Watches config x.number (entries_of now)
    watched = watched_before config x.number (entries_of rest.after) (entries_of now)
        (subst (Watches config x.number) all_parts k.watches)

    holds_now : holds_at config x.path (entries_of now) ≡ Some held
    holds_now = holds_in rest.after rest.front base
        (subst (λ l. HoldsThrough config x held l base) rest.is through)

    -- at a call behind the position the path holds this
    holds_then : (a between : List Entry) (e : Entry) → front ≡ a ++ e ∷ between
        → holds_at config x.path (between ++ entries_of base) ≡ Some held
    holds_then a between e is =
        let later : List Entry = a ++ e ∷ [] in
        let split_now : entries_of now ≡ later ++ (between ++ entries_of base) =
        parts ∙ (ap (λ l. l ++ entries_of base) (is ∙ sym (append_assoc a (e ∷ []) between))
        ∙ append_assoc later between (entries_of base)) in
        still config x.path held later between (entries_of base)
        (subst (ForServer config) split_now law_now)
        (subst (λ l. holds_at config x.path l ≡ Some held) split_now holds_now) settles_here.holds

    -- a call before it is no later
    before_then : (after : List Entry) (c : S.Call) (b : List Entry) → entries_of base ≡ after ++ OfServer c ∷ b
        → server_moment config b c ≤ first.event.at
    before_then after c b is =
        let still_base = (ran config base (stands_of config base base_run)).still first.event.at (omega arith) in
        let rises = clock_rises config after (OfServer c ∷ b) in
        let same = ap (λ l. (own_of config.limits config.server_szx (server_trace config l)).clock) is in
        let soon = still_base.server.own in
        omega (arith, rises, same, soon)

    -- the turn that comes next
    abbrev Here : List Turn → Turn → Type 0
    Here p e = ((n : Newly) → newest config.client_sizes x.number (client_of (entries_of p)) ≡ Some n
        → Watches config x.number (entries_of p) → StillThere config x n.message.token e.event.at (entries_of p))
        × (TakenInTime config p e × IsLegal config.addresses p e)

    next : (e : Turn) × Here now e × (rest.now ≤ e.event.at)
    next = next_with Here (λ e. rest.now ≤ e.event.at) turn rest.after now
        (subst (λ l. Always Here (turn ∷ l)) whole
        (both _ _ (turn ∷ past) k.there (both _ _ (turn ∷ past) k.taken k.run.legal.events)))
        rest.later

    later : rest.now ≤ next.0.event.at
    later = next.2

    -- no 4.04 was sent lately: the path holds something
    not_gone : WasGone config next.0.event.at (entries_of now) → ⊥
    not_gone g =
        ⊎_elim in_front_of before_it
        (in_either front (entries_of base) g.newer (OfServer g.call) g.older (sym parts ∙ g.split))
      where
        before_it : InSecond (entries_of base) (OfServer g.call) g.older → ⊥
        before_it s =
            let a = before_then s.after g.call g.older s.second in
            let b = g.soon in
            let c = later in
            let d = rest.from in
            omega (arith, a, b, c, d)

        in_front_of : InFirst front (entries_of base) g.newer (OfServer g.call) g.older → ⊥
        in_front_of f =
            let law : ForServer config (OfServer g.call ∷ g.older) =
            server_behind config g.newer (OfServer g.call ∷ g.older) (subst (ForServer config) g.split law_now) in
            let split_past : entries_of past ≡ (entries_of rest.after ++ g.newer) ++ OfServer g.call ∷ g.older =
            all_parts ∙ (ap (λ l. entries_of rest.after ++ l) g.split
            ∙ sym (append_assoc (entries_of rest.after) g.newer (OfServer g.call ∷ g.older))) in
            let its = k.of_it (entries_of rest.after ++ g.newer) g.older g.call g.told split_past g.here g.to in
            let holds : holds_at config x.path g.older ≡ Some held =
            subst (λ l. holds_at config x.path l ≡ Some held) (sym f.rest)
            (holds_then g.newer f.between (OfServer g.call) f.first) in
            let tells = tells_held config.limits config.server_szx config.server_setup (server_trace config g.older)
            held
            g.call law g.told g.here
            (ap (λ p. holds_at config p g.older) its.path_is ∙ holds) in
            g.gone tells.code

    abbrev till : ℕ
    till = first.event.at + 3001

    clock_now : (own_of config.limits config.server_szx (server_trace config (entries_of now))).clock ≤ till
    clock_now =
        ((ran config now (stands_of config now run_now)).still till rest.low).server.own

    module _ (o : Observer) (there : registration config.addresses.client token
        (own_of config.limits config.server_szx (server_trace config (entries_of now))).observers ≡ Some o)
        (path_is : o.path ≡ x.path) where
      -- nothing is due to it: it was told last what the path holds
      unmarked : o.marked ≡ false → ToldHeld config held token till (entries_of now)
      unmarked is =
          let c = server_facts.current config.limits config.server_szx config.server_setup
          (server_trace config (entries_of now)) law_now config.addresses.client token o there is in
          let same : Some c.held ≡ Some held =
          sym c.is_held ∙ (ap (λ p. last_at config p (entries_of now)) path_is
          ∙ (sym (last_is config (entries_of now) law_now.rows x.path) ∙ holds_now)) in
          let one : c.held ≡ held = cc same in
          current_told config held token till (entries_of now) c.told c.last
          (c.version ∙ ap (λ (h : Held). h.version) one) clock_now

      among_them : IsAmong config.addresses.client token o
          (own_of config.limits config.server_szx (server_trace config (entries_of now))).observers
      among_them = among config.addresses.client token o
          (own_of config.limits config.server_szx (server_trace config (entries_of now))).observers there

      abbrev layer : List L.Entry
      layer = server_layer config (server_trace config (entries_of now))

      -- a CON to it is outstanding: it began behind the position, and told what the path holds
      begun_behind : (con : Open) → con.to ≡ config.addresses.client → IsOpen layer con → first.event.at < con.first
      begun_behind con to is_open =
          elim (dec_le (con.first + max_age + max_age + 1) next.0.event.at) [
            | yes late ↦ absurd (next.1.1.0.over con
                (subst (Ever (λ b. begun b ≡ Some con)) (sym (far_is config (entries_of now)))
                (open_was_begun layer con is_open)) to (omega (arith, late))
                (subst (λ l. IsOpen l con) (sym (far_is config (entries_of now))) is_open))
            | no early ↦ (let a = rest.from in let b = later in omega (arith, a, b, early))
          ]

      abbrev Begins : Open → List S.Call → S.Call → Type 0
      Begins con p c = Ever (λ b. begun b ≡ Some con)
          (call_adds config.limits config.server_szx config.server_setup p c)

      first_none : (con : Open) (p : List S.Call) (s : Setting) → Begins con p (gives_it s) → ⊥
      first_none con p (DelayOf d) h = h
      first_none con p (PlainOf q) h = h

      at_server : (con : Open) (p : List Entry) (e : Entry) → AtServer config (Begins con) p e
          → (c : S.Call) × (e ≡ OfServer c) × Begins con (server_trace config p) c
      at_server con p (OfClient c) h = absurd h
      at_server con p (OfServer c) h = (c, refl, h)

      by_con : (con : Open) → con.to ≡ config.addresses.client → IsOpen layer con
          → ToldHeld config held token till (entries_of now)
      by_con con to is_open =
          let where_it = split (AtServer config (Begins con)) (entries_of now)
          (server_entries config (Begins con) (first_none con) (entries_of now)
          (located config.limits config.server_szx config.server_setup (λ b. begun b ≡ Some con)
          (server_trace config (entries_of now)) (open_was_begun layer con is_open))) in
          let c = at_server con where_it.older where_it.entry where_it.here in
          tells_there where_it.newer where_it.older c.0
          (where_it.is ∙ ap (λ e. where_it.newer ++ e ∷ where_it.older) c.1) c.2
        where
          tells_there : (a b : List Entry) (c : S.Call) → entries_of now ≡ a ++ OfServer c ∷ b
              → Begins con (server_trace config b) c → ToldHeld config held token till (entries_of now)
          tells_there a b c is begins =
              elim (in_either front (entries_of base) a (OfServer c) b (sym parts ∙ is)) [
                | inl f ↦ in_front_of f
                | inr s ↦ absurd (let m = before_then s.after c b s.second in
                    let n = begun_then config (server_trace config b) c con begins in
                    let behind = begun_behind con to is_open in
                    omega (arith, m, n, behind))
              ]
            where
              in_front_of : InFirst front (entries_of base) a (OfServer c) b
                  → ToldHeld config held token till (entries_of now)
              in_front_of f =
                  let law : ForServer config (OfServer c ∷ b) =
                  server_behind config a (OfServer c ∷ b) (subst (ForServer config) is law_now) in
                  let split_past : entries_of past ≡ (entries_of rest.after ++ a) ++ OfServer c ∷ b =
                  all_parts ∙ (ap (λ l. entries_of rest.after ++ l) is
                  ∙ sym (append_assoc (entries_of rest.after) a (OfServer c ∷ b))) in
                  let lawful_past = lawful_of config past (run_before config turn past k.run) in
                  let registered_past = subst (λ l. WasRegistered config.client_sizes x.number token (client_of l))
                  (sym (all_parts ∙ ap (λ l. entries_of rest.after ++ l) parts))
                  (registered_before config x.number token (entries_of rest.after) (front ++ entries_of base)
                  (registered_before config x.number token front (entries_of base) settles_here.registered)) in
                  let served = subst (Sometime (ServesPair config.limits config.server_szx
                  (record { to = config.addresses.client; token = token })))
                  (sym (ap (server_trace config) f.rest ∙ trace_more config f.between (entries_of base)))
                  (Sometime_back _ (server_of f.between) (server_trace config (entries_of base)) settles_here.served) in
                  let notice_of = con_tells config x (entries_of past) lawful_past token registered_past
                  k.none_cancelled_before k.none_fetched k.requests (entries_of rest.after ++ a) b c split_past served
                  con to
                  begins in
                  let n : Notice = notice_of.0 in
                  let its = k.of_it (entries_of rest.after ++ a) b c n split_past notice_of.1 notice_of.2 in
                  let holds : holds_at config x.path b ≡ Some held =
                  subst (λ l. holds_at config x.path l ≡ Some held) (sym f.rest)
                  (holds_then a f.between (OfServer c) f.first) in
                  let tells = tells_held config.limits config.server_szx config.server_setup (server_trace config b)
                  held c
                  law n notice_of.1 (ap (λ p. holds_at config p b) its.path_is ∙ holds) in
                  let registered_it = subst (λ l. WasRegistered config.client_sizes x.number n.observer.token
                  (client_of l))
                  (sym split_past)
                  (registered_before config x.number n.observer.token (entries_of rest.after ++ a) (OfServer c ∷ b)
                  its.registered) in
                  let same = one_token config x (entries_of past) lawful_past n.observer.token token registered_it
                  registered_past in
                  let rises = clock_rises config a (OfServer c ∷ b) in
                  let at_now = ap (λ l. (own_of config.limits config.server_szx (server_trace config l)).clock) is in
                  let soon = clock_now in
                  record {
                    newer = a;
                    call = c;
                    older = b;
                    split = is;
                    told = tells.told;
                    is = tells.is;
                    to_is = tells.to ∙ its.to_is;
                    token_is = tells.token ∙ same;
                    version = tells.version;
                    soon = omega (arith, rises, at_now, soon);
                  }

      marked : o.marked ≡ true → ToldHeld config held token till (entries_of now)
      marked due =
          elim (busy_or_not config.addresses.client (outstanding layer)) [
            | inl busy ↦ (let c = open_to config.addresses.client layer busy in by_con c.con c.there c.is_open)
            | inr free ↦ absurd (of_each _ o
                (own_of config.limits config.server_szx (server_trace config (entries_of now))).observers rest.nobody
                among_them.there (record {
                  due = due;
                  alone = λ busy. free (subst (λ to. Ever (λ (c : Open). same_endpoint c.to to ≡ true)
                      (outstanding layer))
                      among_them.to_is busy);
                }))
          ]

      by_mark : ToldHeld config held token till (entries_of now)
      by_mark = go o.marked refl
        where
          go : (b : Bool) → o.marked ≡ b → ToldHeld config held token till (entries_of now)
          go true is = marked is
          go false is = unmarked is

    newest_now : (n : Newly) × (newest config.client_sizes x.number (client_of (entries_of now)) ≡ Some n)
    newest_now =
        let m = more_newest config x front (entries_of base) settles_here.newly settles_here.is_newest in
        (m.0, ap (λ l. newest config.client_sizes x.number (client_of l)) parts ∙ m.1)

    token_now : newest_now.0.message.token ≡ token
    token_now =
        one_token config x (entries_of now) (lawful_of config now run_now) newest_now.0.message.token token
        (registered config x now run_now newest_now.0 newest_now.1)
        (subst (λ l. WasRegistered config.client_sizes x.number token (client_of l)) (sym parts)
        (registered_before config x.number token front (entries_of base) settles_here.registered))

    -- it was told
    pub tick_tells : ToldHeld config held token till (entries_of past)
    tick_tells =
        let there = next.1.0 newest_now.0 newest_now.1 watched in
        let told : ToldHeld config held token till (entries_of now) = elim there [
          | inl o ↦ by_mark o.0 (subst (λ t. registration config.addresses.client t
              (own_of config.limits config.server_szx (server_trace config (entries_of now))).observers ≡ Some o.0)
              token_now
              o.1) o.2
          | inr gone ↦ absurd (not_gone gone)
        ] in
        subst (ToldHeld config held token till) (sym all_parts)
        (told_more config held token till (entries_of rest.after) (entries_of now) told)
