-- Where nothing is observed and each exchange ends by an answer, a CON that the server begins for the client while an
-- exchange is open carries the answer to its request.
use Rattle.std.proofs.Common.{◌≡◌, ◌⊎◌, inl, inr, ⊎_elim, ◌≤◌, ◌<◌, ℕ, Some, None, List, [], ◌∷◌, ◌++◌, map, refl, ap}
use Rattle.std.proofs.Common.{sym, subst, ◌∙◌, arith, append_assoc}
use Rattle.coap_types.specs.Past.{Ever, Always}
use Rattle.coap_types.proofs.Facts.Traces.{Ever_append, Ever_map, Ever_of_Since}
use Rattle.coap_layer.specs.Trace as L
use Rattle.coap_layer.specs.Words.{Open, begun}
use Rattle.coap_layer.proofs.Facts.Laws.{begins_of}
use Rattle.coap_block.specs.Whole.{Each}
use Rattle.coap_client_laws.specs.Follows.Ends.{ends_as}
use Rattle.coap_client_laws.specs.Follows.OfObservations.{AreOfObservations}
use Rattle.coap_client_laws.specs.Follows.Open.{HearsOfOpen}
use Rattle.coap_client.specs.Sendings.{Sending}
use Rattle.coap_client.specs.Trace as C
use Rattle.coap_server_laws.specs.Follows.Begins.{IsNextNotice, CanNotify}
use Rattle.coap_server.specs.Follows.Observes.{WasMade, AreObservers}
use Rattle.coap_server.specs.Law.{own_of}
use Rattle.coap_server.specs.Trace as S
use Rattle.coap_server_laws.proofs.Facts.EachCall.{all_tell_sent}
use Rattle.coap_server_laws.proofs.Facts.Laws as server_facts
use Rattle.coap_record.specs.Events.{Config}
use Rattle.coap_promise.specs.Hops.{server_adds}
use Rattle.coap_record.specs.Legal.{IsConfig, NotBefore, AllLegal}
use Rattle.coap_record.specs.Record.{Entry, OfClient, OfServer, Turn, begun_with, entries_of, client_of, server_of}
use Rattle.coap_record.specs.Record.{server_trace}
use Rattle.coap_smooth.specs.Separate.{CarriesAnswer}
use Rattle.coap_smooth.specs.Smooth.{TakesNoObservation}
use Rattle.coap_promise.proofs.Facts.Delivery.ClientInTime as client
use Rattle.coap_promise.proofs.Facts.Delivery.EntriesInTime.{Every, Timely}
use Rattle.coap_promise.proofs.Facts.Delivery.HopsAreEntries.{server_layer, server_next, far_is}
use Rattle.coap_promise.proofs.Facts.Delivery.OneEndATurn.{ClientTurn, ServerTurn}
use Rattle.coap_record.proofs.Facts.CallsOfEnds.{client_client, client_server, server_client}
use Rattle.coap_record.proofs.Facts.CallsOfEnds.{server_server}
use Rattle.coap_promise.proofs.Facts.Delivery.ServerInTime as server
use Rattle.coap_promise.proofs.Facts.Requests.OfACall.{Lawful, lawful_back}
use Rattle.coap_promise.proofs.Facts.Requests.Promised.{lawful}
use Rattle.coap_smooth.proofs.Smoothly.Answers.ConsAnswer.{RespondsTo, NotifiesTo, con_of}
use Rattle.coap_smooth.proofs.Smoothly.Answers.ExchangeOpen.{OpenOf}
use Rattle.coap_promise.proofs.Facts.Delivery.ClientTurns.{all_at as client_at}
use Rattle.coap_promise.proofs.Facts.Delivery.ServerTurns.{all_at as server_at}
use Rattle.coap_smooth.proofs.Smoothly.Requests.NoObservers.{none_made}
use Rattle.coap_smooth.proofs.Smoothly.Requests.OfOpen.{of_open_exchange}
use Rattle.coap_smooth.proofs.Smoothly.Ticks.NothingIsLeft.{Stands, before, record_of, turned, side_of}
use Rattle.coap_smooth.proofs.Smoothly.Ticks.TicksAnswer.{ticks_answer}
use Rattle.coap_smooth.proofs.Smoothly.Ticks.TicksInTime.{lifted}
use Rattle.coap_smooth.proofs.Smoothly.Answers.YoungCalls.{began_at}
use Rattle.coap_promise.proofs.Facts.Delivery.ClientTurns.{turn_calls as client_turn_calls}
use Rattle.coap_promise.proofs.Facts.Delivery.ServerTurns.{turn_calls as server_turn_calls}
use Rattle.coap_record.specs.declared.addresses.Addresses.{Addresses}

-- what holds of one holds of each before it
pub calls_before : (P : List C.Call → C.Call → Type 0) (later older : List Entry)
    → Always P (client_of (later ++ older))
    → Always P (client_of older)
calls_before P [] older h = h
calls_before P (OfClient c ∷ later) older h = calls_before P later older h.1
calls_before P (OfServer c ∷ later) older h = calls_before P later older h

-- moments don't fall
pub until : (addresses : Addresses) (turns : List Turn) → AllLegal addresses turns → (t : ℕ) → NotBefore turns t
    → Always (λ p (u : Turn). u.event.at ≤ t) turns
until addresses [] legal t h = tt
until addresses (u ∷ past) legal t h = (h, until addresses past legal.1 t (lifted past u.event.at t h legal.0.later))

pub of_each : {X : Type 0} (P : X → Type 0) (x : X) (xs : List X) → Each P xs → Ever (λ y. y ≡ x) xs → P x
of_each P x [] all h = absurd h
of_each P x (y ∷ xs) all (inl h) = subst P h all.0
of_each P x (y ∷ xs) all (inr h) = of_each P x xs all.1 h

module _ (config : Config) (range : IsConfig config)
    (observers : (t : List S.Call) → AreObservers config.limits config.server_szx t) where
  -- nothing is observed, each exchange ended by an answer, and that of this request is open, since that moment
  pub record OpensAlone (at : ℕ) (x : Sending) (t : List C.Call) : Type 0 where
    pub observed : AreOfObservations config.client_sizes t
    pub none : Always (λ p c. TakesNoObservation c) t
    pub of_open : HearsOfOpen config.addresses.server config.client_sizes config.client_setup t
    pub ends : Always (λ p c. ends_as c ≡ None) t
    pub is_open : OpenOf config.addresses.server config.client_sizes config.client_setup at x t

  module _ (at : ℕ) (x : Sending) (con : Open) (to : con.to ≡ config.addresses.client) where
    abbrev Begun : List L.Entry → Type 0
    Begun es = Ever (λ b. begun b ≡ Some con) es

    carries_here : (past : List Entry) (c : S.Call) → Lawful config (OfServer c ∷ past)
        → OpensAlone at x (client_of past)
        → Begun (server_adds config (server_trace config past) c) → CarriesAnswer config.addresses x con
    carries_here past c law o now =
        by (con_of config.limits config.server_szx config.server_setup (server_trace config past) c con now)
      where
        by : RespondsTo (own_of config.limits config.server_szx (server_trace config past)) c con.to
            ⊎ NotifiesTo c con.to → CarriesAnswer config.addresses x con
        by (inl r) =
            let token = of_open_exchange config past c law o.observed o.none o.of_open o.ends at x o.is_open r.now
            r.answer r.tick r.asked r.answers (r.from ∙ to) in
            let k = (ticks_answer config range (OfServer c ∷ past) law.server).0 c r.now r.answer r.asked x refl r.tick
            r.answers (r.from ∙ to) token in
            let one = (all_tell_sent config.limits config.server_szx config.server_setup (c ∷ server_trace config past)
            law.server).0.one in
            subst (CarriesAnswer config.addresses x) (one k.0 con k.1 now) k.2
        by (inr n) =
            let next : IsNextNotice config.limits config.server_szx config.server_setup (server_trace config past) n.now
            n.notice_of.observer =
            ((server_facts.begins config.limits config.server_szx config.server_setup (c ∷ server_trace config past)
            law.server).0 n.now n.answer
            n.tick).notifies n.notice_of n.here in
            let o_first = Ever_of_Since (λ y. (y ≡ n.notice_of.observer)
            × CanNotify config.limits config.server_szx config.server_setup (server_trace config past) y)
            (λ y. CanNotify config.limits config.server_szx config.server_setup (server_trace config past) y → ⊥)
            (own_of config.limits config.server_szx (server_trace config past)).observers next.first in
            let made = of_each (WasMade config.limits config.server_szx (server_trace config past)) n.notice_of.observer
            (own_of config.limits config.server_szx (server_trace config past)).observers
            (observers (server_trace config past)).made
            (Ever_map _ (λ y. y ≡ n.notice_of.observer) (λ y k. k.0)
            (own_of config.limits config.server_szx (server_trace config past)).observers o_first) in
            absurd (none_made config n.notice_of.observer past (lawful_back config past (OfServer c) law) o.observed
            o.none
            (n.there ∙ to) made)

    -- in calls of the server
    in_calls : (cs : List S.Call) (past : List Entry) → Lawful config (map OfServer cs ++ past)
        → OpensAlone at x (client_of past) → Begun (server_layer config (server_trace config (map OfServer cs ++ past)))
        → CarriesAnswer config.addresses x con ⊎ Begun (server_layer config (server_trace config past))
    in_calls [] past law o h = inr h
    in_calls (c ∷ cs) past law o h =
        let es : List Entry = map OfServer cs ++ past in
        let t : List S.Call = server_trace config es in
        ⊎_elim (λ now. inl (carries_here es c law (subst (OpensAlone at x) (sym (client_server cs past)) o) now))
        (λ earlier. in_calls cs past (lawful_back config es (OfServer c) law) o earlier)
        (Ever_append (λ b. begun b ≡ Some con) (server_adds config t c) (server_layer config t)
        (subst Begun (server_next config t c) h))

    -- .. of a turn

    -- it began at its moment, or before
    first_by : (t : ℕ) (cs past : List S.Call) → Every (server.IsAt t) cs → server.IsBy config t past
        → Begun (server_layer config (cs ++ past)) → (con.first ≤ t) ⊎ Begun (server_layer config past)
    first_by t [] past at_t by h = inr h
    first_by t (c ∷ cs) past at_t by h =
        ⊎_elim (λ now. inl (in_time (server_adds config (cs ++ past) c)
        (server.adds_timely config t (cs ++ past) c (by_calls cs at_t.1) at_t.0) now))
        (λ earlier. first_by t cs past at_t.1 by earlier)
        (Ever_append (λ b. begun b ≡ Some con) (server_adds config (cs ++ past) c) (server_layer config (cs ++ past))
        (subst Begun (server_next config (cs ++ past) c) h))
      where
        by_calls : (ds : List S.Call) → Every (server.IsAt t) ds → server.IsBy config t (ds ++ past)
        by_calls [] at_t = by
        by_calls (d ∷ ds) at_t = server.next_by config t (ds ++ past) d (by_calls ds at_t.1) at_t.0

        in_time : (es : List L.Entry) → Every (Timely t (server.Fed c)) es → Begun es → con.first ≤ t
        in_time [] all h = absurd h
        in_time (e ∷ es) all (inl h) =
            let b = begins_of e con h in let first = b.first_is in let till = all.0.till in omega (arith, first, till)
        in_time (e ∷ es) all (inr h) = in_time es all.1 h

  -- what is open at a turn was open before it, where it began before
  pub opened_before : (turn : Turn) (past : List Turn) → Stands config (turn ∷ past) → (at : ℕ) (x : Sending)
      → at < turn.event.at
      → OpenOf config.addresses.server config.client_sizes config.client_setup at x
      (client_of (turn.entries ++ entries_of past))
      → OpenOf config.addresses.server config.client_sizes config.client_setup at x (client_of (entries_of past))
  opened_before turn past s at x earlier o = by (side_of config turn past s)
    where
      behind : (cs t : List C.Call) → Every (client.IsAt turn.event.at) cs
          → OpenOf config.addresses.server config.client_sizes config.client_setup at x (cs ++ t)
          → OpenOf config.addresses.server config.client_sizes config.client_setup at x t
      behind [] t is_at k = k
      behind (c ∷ cs) t is_at (inl k) =
          let late = began_at config.client_sizes turn.event.at at (cs ++ t) c is_at.0
          (record { sending = x; sends_it = k.0; moment = k.1 }) in
          absurd (omega (arith, late, earlier))
      behind (c ∷ cs) t is_at (inr k) = behind cs t is_at.1 k.3

      by : ClientTurn turn.event.at turn.entries ⊎ ServerTurn turn.event.at turn.entries
          → OpenOf config.addresses.server config.client_sizes config.client_setup at x (client_of (entries_of past))
      by (inr on) =
          let cs : List S.Call = server_turn_calls on.on.outs on.calls in
          subst (OpenOf config.addresses.server config.client_sizes config.client_setup at x)
          (ap (λ z. client_of (z ++ entries_of past)) on.on.is ∙ client_server cs (entries_of past)) o
      by (inl on) =
          let cs : List C.Call = client_turn_calls on.on.outs on.on.reports on.calls in
          behind cs (client_of (entries_of past))
          (client_at turn.event.at on.on.outs on.on.reports on.calls on.at)
          (subst (OpenOf config.addresses.server config.client_sizes config.client_setup at x)
          (ap (λ z. client_of (z ++ entries_of past)) on.on.is ∙ client_client cs (entries_of past)) o)

  pub alone_before : (turn : Turn) (past : List Turn) → Stands config (turn ∷ past) → (at : ℕ) (x : Sending)
      → at < turn.event.at → OpensAlone at x (client_of (turn.entries ++ entries_of past))
      → OpensAlone at x (client_of (entries_of past))
  alone_before turn past s at x earlier o = record {
    observed = calls_before _ turn.entries (entries_of past) o.observed;
    none = calls_before _ turn.entries (entries_of past) o.none;
    of_open = calls_before _ turn.entries (entries_of past) o.of_open;
    ends = calls_before _ turn.entries (entries_of past) o.ends;
    is_open = opened_before turn past s at x earlier o.is_open;
  }

  module _ (at : ℕ) (x : Sending) (con : Open) (to : con.to ≡ config.addresses.client) where
    abbrev There : List Turn → Type 0
    There turns = Begun at x con to (server_layer config (server_trace config (entries_of turns)))

    -- in this turn, or before it
    pub carries_now : (turn : Turn) (past : List Turn) → Stands config (turn ∷ past)
        → OpensAlone at x (client_of (entries_of past)) → There (turn ∷ past) → CarriesAnswer config.addresses x con
        ⊎ There past
    carries_now turn past s o h = by (side_of config turn past s)
      where
        law : Lawful config (entries_of (turn ∷ past))
        law = lawful config _ (turn ∷ past) (record_of config (turn ∷ past) s)
            (record { range = s.range; events = s.legal })

        by : ClientTurn turn.event.at turn.entries ⊎ ServerTurn turn.event.at turn.entries
            → CarriesAnswer config.addresses x con ⊎ There past
        by (inl on) =
            let cs : List C.Call = client_turn_calls on.on.outs on.on.reports on.calls in
            inr (subst (λ z. Begun at x con to (server_layer config (z ++ begun_with config)))
            (ap (λ z. server_of (z ++ entries_of past)) on.on.is
            ∙ server_client cs (entries_of past)) h)
        by (inr on) =
            let cs : List S.Call = server_turn_calls on.on.outs on.calls in
            in_calls at x con to cs (entries_of past)
            (subst (λ z. Lawful config (z ++ entries_of past)) on.on.is law) o
            (subst (λ z. Begun at x con to (server_layer config (server_trace config (z ++ entries_of past)))) on.on.is
            h)

    -- what was begun by then
    pub first_until : (turns : List Turn) → Stands config turns → (t : ℕ)
        → Always (λ p (u : Turn). u.event.at ≤ t) turns
        → There turns → con.first ≤ t
    first_until [] s t late h =
        absurd (subst (Ever (λ b. begun b ≡ Some con)) (sym (far_is config [])) h)
    first_until (turn ∷ past) s t late h =
        ⊎_elim (λ k. k) (λ k. first_until past (before config turn past s) t late.1 k) (now turn past s t late.0 h)
      where
        now : (u : Turn) (older : List Turn) → Stands config (u ∷ older) → (till : ℕ) → u.event.at ≤ till
            → There (u ∷ older)
            → (con.first ≤ till) ⊎ There older
        now u older standing till early there = by (side_of config u older standing)
          where
            by : ClientTurn u.event.at u.entries ⊎ ServerTurn u.event.at u.entries → (con.first ≤ till) ⊎ There older
            by (inl on) =
                let cs : List C.Call = client_turn_calls on.on.outs on.on.reports on.calls in
                inr (subst (λ z. Begun at x con to (server_layer config (z ++ begun_with config)))
                (ap (λ z. server_of (z ++ entries_of older)) on.on.is ∙ server_client cs (entries_of older)) there)
            by (inr on) =
                let cs : List S.Call = server_turn_calls on.on.outs on.calls in
                let is : server_trace config (u.entries ++ entries_of older) ≡ cs
                ++ server_trace config (entries_of older) =
                ap (λ l. l ++ begun_with config) (ap (λ z. server_of (z ++ entries_of older)) on.on.is
                ∙ server_server cs (entries_of older))
                ∙ append_assoc cs (server_of (entries_of older)) (begun_with config) in
                ⊎_elim (λ k. inl (omega (arith, k, early))) (λ k. inr k)
                (first_by at x con to u.event.at cs (server_trace config (entries_of older))
                (server_at u.event.at on.on.outs on.calls on.at) (turned config u older standing).still.server
                (subst (λ z. Begun at x con to (server_layer config z)) is there))

    -- since the exchange began
    pub carries_since : (turns : List Turn) → Stands config turns → at < con.first
        → OpensAlone at x (client_of (entries_of turns)) → There turns → CarriesAnswer config.addresses x con
    carries_since [] s later o h = absurd o.is_open
    carries_since (turn ∷ past) s later o h =
        ⊎_elim (λ k. k) (λ k. carries_since past (before config turn past s) later earlier k)
        (carries_now turn past s earlier h)
      where
        earlier : OpensAlone at x (client_of (entries_of past))
        earlier = alone_before turn past s at x moment o
          where
            moment : at < turn.event.at
            moment =
                let same : turn.event.at ≤ turn.event.at = omega arith in
                let k = first_until (turn ∷ past) s turn.event.at
                (until config.addresses (turn ∷ past) s.legal turn.event.at same) h in
                omega (arith, k, later)
