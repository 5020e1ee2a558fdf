-- In each EXCHANGE_LIFETIME of a smooth run the client hears at most one answer more than requests are handed up at the
-- server.
use Rattle.std.proofs.Common.{◌≡◌, ◌⊎◌, inl, inr, ⊎_elim, ◌≤◌, ◌<◌, ℕ, ◌+◌, ◌^◌, nat_le, Bool, true, false, cond}
use Rattle.std.proofs.Common.{Option, Some, None, List, [], ◌∷◌, ◌++◌, map, refl, ap, sym, subst, ◌∙◌, arith, is_some}
use Rattle.std.proofs.Common.{◌&&◌, max}
use Rattle.std.proofs.lemmas.Bool.{le-leb, leb-true, cases_lt}
use Rattle.coap_types.specs.Past.{Always}
use Rattle.coap_types.specs.declared.transmission.TheConstants.{EXCHANGE_LIFETIME_MS as exchange_lifetime}
use Rattle.coap_codec.specs.Message.{Message}
use Rattle.coap_layer.specs.Trace as L
use Rattle.coap_layer.specs.Words.{handed_by}
use Rattle.coap_block.specs.Sizes.{Sizes}
use Rattle.coap_exchange.specs.declared.asker.Event.TheVariants as event_of
use Rattle.coap_client.specs.Law.{own_of}
use Rattle.coap_client.specs.Trace as C
use Rattle.coap_client_laws.proofs.Facts.Laws.{clock_is}
use Rattle.coap_server.specs.Trace as S
use Rattle.coap_record.specs.Events.{Config}
use Rattle.coap_record.specs.Legal.{NotBefore}
use Rattle.coap_record.specs.Record.{Entry, OfClient, OfServer, Turn, entries_of, client_of, server_of}
use Rattle.coap_smooth.specs.Smooth.{is_then, count_came, came_at, to_server}
use Rattle.coap_promise.proofs.Facts.Delivery.ClientInTime as client
use Rattle.coap_promise.proofs.Facts.Delivery.EntriesInTime.{Every, every_map}
use Rattle.coap_promise.proofs.Facts.Delivery.OneEndATurn.{ClientTurn, ServerTurn}
use Rattle.coap_record.proofs.Facts.CallsOfEnds.{client_client, client_server}
use Rattle.coap_promise.proofs.Facts.Delivery.ServerInTime as server
use Rattle.coap_promise.proofs.Facts.Delivery.ClientTurns.{all_at as client_at}
use Rattle.coap_promise.proofs.Facts.Delivery.ServerTurns.{all_at as server_at}
use Rattle.coap_smooth.proofs.Smoothly.MessageIds.HandedBetween.{answered_at, heard_at, arrived_at, CameSince}
use Rattle.coap_smooth.proofs.Smoothly.MessageIds.HandedBetween.{AreBetween}
use Rattle.coap_fair.proofs.Runs.Stands.{Stands, before, ran, turned, side_of}
use Rattle.coap_promise.proofs.Facts.Delivery.ClientTurns.{turn_calls as client_turn_calls}
use Rattle.coap_promise.proofs.Facts.Delivery.ServerTurns.{turn_calls as server_turn_calls}

-- what is heard, or handed up, is so at most at this moment
pub record Till (n : ℕ) (e : Entry) : Type 0 where
  heard : (m : ℕ) → heard_at e ≡ Some m → m ≤ n
  arrived : (m : ℕ) → arrived_at e ≡ Some m → m ≤ n

abbrev Tills : ℕ → List Entry → Type 0
Tills n es = Every (Till n) es

-- the moments don't fall
pub record IsLater (past : List Entry) (e : Entry) : Type 0 where
  heard : (m : ℕ) → heard_at e ≡ Some m → Tills m past
  arrived : (m : ℕ) → arrived_at e ≡ Some m → Tills m past

abbrev Rises : List Entry → Type 0
Rises es = Always IsLater es

till_later : (n k : ℕ) (es : List Entry) → n ≤ k → Tills n es → Tills k es
till_later n k es le t = every_map (Till n) (Till k)
    (λ e h. record {
      heard = λ m is. (let a = h.heard m is in omega (arith, a, le));
      arrived = λ m is. (let a = h.arrived m is in omega (arith, a, le));
    }) es t

and_both : (a b : Bool) → a ≡ true → b ≡ true → (a && b) ≡ true
and_both a b h k = cc (h, k)

module _ (u : ℕ) where
  abbrev heard : List Entry → ℕ
  heard es = count_came heard_at u es

  abbrev arrived : List Entry → ℕ
  arrived es = count_came arrived_at u es

  not_then : (o : Option ℕ) (n : ℕ) → ((m : ℕ) → o ≡ Some m → m ≤ n) → n < u → is_then u o ≡ false
  not_then None n till less = refl
  not_then (Some m) n till less =
      by (nat_le u m) (λ e. (let k = leb-true u m e in let a = till m refl in absurd (omega (arith, k, a, less))))
      (nat_le m (u + exchange_lifetime))
    where
      by : (b : Bool) → (b ≡ true → ⊥) → (d : Bool) → (b && d) ≡ false
      by true f d = absurd (f refl)
      by false f d = refl

  counts_none : (b : Bool) (n : ℕ) → b ≡ false → cond b (1 + n) n ≡ n
  counts_none true n e = absurd (cc e)
  counts_none false n e = refl

  counts_more : (b : Bool) (n : ℕ) → n ≤ cond b (1 + n) n
  counts_more true n = omega arith
  counts_more false n = omega arith

  counts_at_most : (b : Bool) (n : ℕ) → cond b (1 + n) n ≤ 1 + n
  counts_at_most true n = omega arith
  counts_at_most false n = omega arith

  second : (a b : Bool) → (a && b) ≡ true → b ≡ true
  second true b h = h
  second false b h = absurd (cc h)

  counts_one : (b : Bool) (n : ℕ) → b ≡ true → cond b (1 + n) n ≡ 1 + n
  counts_one true n e = refl
  counts_one false n e = absurd (cc e)

  -- nothing is heard that early
  none_heard : (n : ℕ) (es : List Entry) → Tills n es → n < u → heard es ≡ 0
  none_heard n [] till less = refl
  none_heard n (e ∷ past) till less =
      counts_none (is_then u (heard_at e)) (heard past) (not_then (heard_at e) n till.0.heard less)
      ∙ none_heard n past till.1 less

  -- one that is handed up, no later than that
  one_arrives : (e : Entry) (past : List Entry) (n : ℕ) → is_some (arrived_at e) ≡ true → IsLater past e → Till n e
      → n ≤ u + exchange_lifetime → heard past ≤ 1 + arrived past → heard (e ∷ past) ≤ arrived (e ∷ past)
  one_arrives (OfClient c) past n is later till le old = absurd (cc is)
  one_arrives (OfServer c) past n is later till le old =
      by (to_server c) is later.arrived till.arrived
    where
      by : (o : Option ℕ) → is_some o ≡ true → ((m : ℕ) → o ≡ Some m → Tills m past)
          → ((m : ℕ) → o ≡ Some m → m ≤ n)
          → heard past ≤ cond (is_then u o) (1 + arrived past) (arrived past)
      by None h l t = absurd (cc h)
      by (Some m) h l t = ⊎_elim
          (λ early. (let none = none_heard m past (l m refl) early in
          let more = counts_more (is_then u (Some m)) (arrived past) in omega (arith, none, more)))
          (λ late. (let k = t m refl in
          let one = counts_one (is_then u (Some m)) (arrived past) (and_both _ _
          (le-leb u m (omega (arith, late))) (le-leb m (u + exchange_lifetime) (omega (arith, k, le)))) in
          omega (arith, one, old)))
          (cases_lt m u)

  -- one answer more at most; and none more where something was handed up since the last
  record Counted (es : List Entry) : Type 0 where
    all : heard es ≤ 1 + arrived es
    since : CameSince es → (n : ℕ) → Tills n es → n ≤ u + exchange_lifetime → heard es ≤ arrived es

  counted : (es : List Entry) → AreBetween es → Rises es → Counted es
  counted [] between rises = record { all = omega arith; since = λ h n t le. omega arith }
  counted (e ∷ past) between rises =
      let old = counted past between.1 rises.1 in
      record { all = all_of old (heard_at e) refl; since = since_of old }
    where
      all_of : Counted past → (o : Option ℕ) → heard_at e ≡ o → heard (e ∷ past) ≤ 1 + arrived (e ∷ past)
      all_of old None is =
          let same = counts_none (is_then u (heard_at e)) (heard past) (ap (is_then u) is) in
          let more = counts_more (is_then u (arrived_at e)) (arrived past) in
          let all = old.all in
          omega (arith, same, more, all)
      all_of old (Some m) is = by (is_then u (Some m)) refl
        where
          by : (b : Bool) → is_then u (Some m) ≡ b → heard (e ∷ past) ≤ 1 + arrived (e ∷ past)
          by false h =
              let same = counts_none (is_then u (heard_at e)) (heard past) (ap (is_then u) is ∙ h) in
              let more = counts_more (is_then u (arrived_at e)) (arrived past) in
              let all = old.all in
              omega (arith, same, more, all)
          by true h =
              let came = between.0 (ap is_some is) in
              let late = leb-true m (u + exchange_lifetime) (second (nat_le u m) _ h) in
              let k = old.since came m (rises.0.heard m is) late in
              let one = counts_at_most (is_then u (heard_at e)) (heard past) in
              let more = counts_more (is_then u (arrived_at e)) (arrived past) in
              omega (arith, k, one, more)

      since_of : Counted past → CameSince (e ∷ past) → (n : ℕ) → Tills n (e ∷ past) → n ≤ u + exchange_lifetime
          → heard (e ∷ past) ≤ arrived (e ∷ past)
      since_of old (inl is) n till le = one_arrives e past n is rises.0 till.0 le old.all
      since_of old (inr h) n till le =
          let same = counts_none (is_then u (heard_at e)) (heard past) (ap (is_then u) h.0) in
          let more = counts_more (is_then u (arrived_at e)) (arrived past) in
          let k = old.since h.1 n till.1 le in
          omega (arith, same, more, k)

  -- of the calls of each end

  of_client : (es : List Entry) → heard es ≡ count_came answered_at u (client_of es)
  of_client [] = refl
  of_client (OfClient c ∷ es) = ap (λ n. cond (is_then u (answered_at c)) (1 + n) n) (of_client es)
  of_client (OfServer c ∷ es) = of_client es

  of_server : (es : List Entry) → arrived es ≡ count_came to_server u (server_of es)
  of_server [] = refl
  of_server (OfClient c ∷ es) = of_server es
  of_server (OfServer c ∷ es) = ap (λ n. cond (is_then u (to_server c)) (1 + n) n) (of_server es)

  pub few_heard : (es : List Entry) → AreBetween es → Rises es
      → count_came answered_at u (client_of es) ≤ 1 + count_came to_server u (server_of es)
  few_heard es between rises =
      let k = (counted es between rises).all in
      let a = of_client es in
      let b = of_server es in
      omega (arith, k, a, b)

-- when the calls of a turn are

client_till : (t : ℕ) (c : C.Call) → client.IsAt t c → (m : ℕ) → answered_at c ≡ Some m → m ≡ t
client_till t (C.Feeds now from bytes word up settled (Some (event_of.Answer x)) sent token kept) at m is =
    let same : now ≡ m = cc is in sym same ∙ at
client_till t _ at m is = absurd (cc is)

came_when : (now : ℕ) (up : L.Answer) (m : ℕ) → came_at now up ≡ Some m → m ≡ now
came_when now up m is = by (handed_by up) is
  where
    by : (o : Option Message) → elim o [ Some x ↦ Some now | None ↦ None ] ≡ Some m → m ≡ now
    by (Some x) h = let same : now ≡ m = cc h in sym same
    by None h = absurd (cc h)

server_till : (t : ℕ) (c : S.Call) → server.IsAt t c → (m : ℕ) → to_server c ≡ Some m → m ≡ t
server_till t (S.Feeds now from bytes word up came h below) at m is = came_when now up m is ∙ at
server_till t (S.Refuses now from bytes word code up p response below) at m is = came_when now up m is ∙ at
server_till t _ at m is = absurd (cc is)

-- so many at once rise
record Timed (t : ℕ) (es : List Entry) : Type 0 where
  rises : Rises es
  till : Tills t es

one_more : (t : ℕ) (e : Entry) (es : List Entry) → ((m : ℕ) → heard_at e ≡ Some m → m ≡ t)
    → ((m : ℕ) → arrived_at e ≡ Some m → m ≡ t) → Timed t es → Timed t (e ∷ es)
one_more t e es h a k = record {
  rises = (
    record {
      heard = λ m is. subst (λ n. Tills n es) (sym (h m is)) k.till;
      arrived = λ m is. subst (λ n. Tills n es) (sym (a m is)) k.till;
    },
    k.rises,
  );
  till = (
    record {
      heard = λ m is. (let e = h m is in omega (arith, e));
      arrived = λ m is. (let e = a m is in omega (arith, e));
    },
    k.till,
  );
}

client_timed : (t : ℕ) (cs : List C.Call) (es : List Entry) → Every (client.IsAt t) cs → Timed t es
    → Timed t (map OfClient cs ++ es)
client_timed t [] es at k = k
client_timed t (c ∷ cs) es at k =
    one_more t (OfClient c) (map OfClient cs ++ es) (client_till t c at.0) (λ m is. absurd (cc is))
    (client_timed t cs es at.1 k)

server_timed : (t : ℕ) (cs : List S.Call) (es : List Entry) → Every (server.IsAt t) cs → Timed t es
    → Timed t (map OfServer cs ++ es)
server_timed t [] es at k = k
server_timed t (c ∷ cs) es at k =
    one_more t (OfServer c) (map OfServer cs ++ es) (λ m is. absurd (cc is)) (server_till t c at.0)
    (server_timed t cs es at.1 k)

-- a call at which an answer is heard is at the client's clock
abbrev pub AtClock : Sizes → List C.Call → C.Call → Type 0
AtClock sizes past c = (m : ℕ) → answered_at c ≡ Some m → (own_of sizes (c ∷ past)).clock ≡ m

module _ (config : Config) where
  abbrev own_clock : List C.Call → ℕ
  own_clock past = (own_of config.client_sizes past).clock

  at_clock : (t : ℕ) (past : List C.Call) (c : C.Call) → own_clock past ≤ t → client.IsAt t c
      → AtClock config.client_sizes past c
  at_clock t past (C.Feeds now from bytes word up settled event sent token kept) by at m is =
      let c : C.Call = C.Feeds now from bytes word up settled event sent token kept in
      let k = clock_is (own_of config.client_sizes past) c in
      let same = client_till t c at m is in
      let moment : max (own_clock past) now ≡ m = omega (arith, by, at, same) in
      k ∙ moment
  at_clock t past _ by at m is = absurd (cc is)

  calls_at_clock : (t : ℕ) (cs past : List C.Call) → Every (client.IsAt t) cs → client.IsBy config t past
      → Always (AtClock config.client_sizes) past
      → client.IsBy config t (cs ++ past) × Always (AtClock config.client_sizes) (cs ++ past)
  calls_at_clock t [] past at by old = (by, old)
  calls_at_clock t (c ∷ cs) past at by old =
      let k = calls_at_clock t cs past at.1 by old in
      (client.next_by config t (cs ++ past) c k.0 at.0, (at_clock t (cs ++ past) c k.0.own at.0, k.1))

  -- the turns of a run
  pub record OfTurns (turns : List Turn) : Type 0 where
    pub rises : Rises (entries_of turns)
    pub till : (t : ℕ) → NotBefore turns t → Tills t (entries_of turns)
    pub clock : Always (AtClock config.client_sizes) (client_of (entries_of turns))

  pub of_turns : (turns : List Turn) → Stands config turns → OfTurns turns
  of_turns [] s = record { rises = tt; till = λ t n. tt; clock = tt }
  of_turns (turn ∷ past) s =
      by (of_turns past (before config turn past s)) (side_of config turn past s)
    where
      at : ℕ
      at = turn.event.at

      joined : (clock : Always (AtClock config.client_sizes) (client_of (turn.entries ++ entries_of past)))
          → Timed at (turn.entries ++ entries_of past) → OfTurns (turn ∷ past)
      joined clock k = record {
        rises = k.rises;
        till = λ t n. till_later at t (turn.entries ++ entries_of past) n k.till;
        clock = clock;
      }

      by : OfTurns past → ClientTurn at turn.entries ⊎ ServerTurn at turn.entries → OfTurns (turn ∷ past)
      by old (inr on) =
          let cs : List S.Call = server_turn_calls on.on.outs on.calls in
          let is : client_of (turn.entries ++ entries_of past) ≡ client_of (entries_of past) =
          ap (λ z. client_of (z ++ entries_of past)) on.on.is ∙ client_server cs (entries_of past) in
          joined (subst (Always (AtClock config.client_sizes)) (sym is) old.clock)
          (subst (λ z. Timed at (z ++ entries_of past)) (sym on.on.is)
          (server_timed at cs (entries_of past) (server_at at on.on.outs on.calls on.at)
          (record { rises = old.rises; till = old.till at s.legal.0.later })))
      by old (inl on) =
          let cs : List C.Call = client_turn_calls on.on.outs on.on.reports on.calls in
          let all = client_at at on.on.outs on.on.reports on.calls on.at in
          let is : client_of (turn.entries ++ entries_of past) ≡ cs ++ client_of (entries_of past) =
          ap (λ z. client_of (z ++ entries_of past)) on.on.is ∙ client_client cs (entries_of past) in
          joined (subst (Always (AtClock config.client_sizes)) (sym is)
          (calls_at_clock at cs (client_of (entries_of past)) all (turned config turn past s).still.client old.clock).1)
          (subst (λ z. Timed at (z ++ entries_of past)) (sym on.on.is)
          (client_timed at cs (entries_of past) all
          (record { rises = old.rises; till = old.till at s.legal.0.later })))

  -- its clock has 64 bits
  pub clock_small : (turns : List Turn) → Stands config turns → own_clock (client_of (entries_of turns)) < 2 ^ 64
  clock_small [] s = omega arith
  clock_small (turn ∷ past) s =
      let here : turn.event.at ≤ turn.event.at = omega arith in
      let k = ((ran config (turn ∷ past) s).still turn.event.at here).client.own in
      let small = s.legal.0.at in
      omega (arith, k, small)
