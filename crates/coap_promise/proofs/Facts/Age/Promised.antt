-- What a client reports is not old, by two clocks and by one.
use Rattle.std.proofs.Common.{◌≡◌, ◌⊎◌, inl, inr, ⊎_elim, ◌≤◌, ℕ, ◌+◌, Some, List, [], ◌∷◌, ◌++◌, length, refl, ap}
use Rattle.std.proofs.Common.{arith, subst, sym}
use Rattle.coap_types.specs.Past.{Ever, Sometime, Always}
use Rattle.coap_types.proofs.Facts.Traces.{Ever_back, Ever_front, Ever_map, Sometime_map}
use Rattle.coap_types.specs.declared.message.Kind.{Kind}
use Rattle.coap_types.specs.declared.message.Kind.TheVariants.{Con, Non, Ack}
use Rattle.coap_types.specs.declared.transmission.TheConstants.{EXCHANGE_LIFETIME_MS as exchange_lifetime}
use Rattle.coap_types.specs.declared.transmission.TheConstants.{LAST_ARRIVAL_MS as last_arrival}
use Rattle.coap_types.specs.declared.transmission.TheConstants.{MAX_LATENCY_MS as max_latency}
use Rattle.coap_types.specs.declared.transmission.TheConstants.{MAX_TRANSMIT_WAIT_MS as max_transmit_wait}
use Rattle.coap_codec.specs.Message.{Message}
use Rattle.coap_layer.specs.Channel.{near_of}
use Rattle.coap_layer.specs.Clocks.{max_gain}
use Rattle.coap_layer.specs.Rested as layers
use Rattle.coap_layer.specs.Trace as L
use Rattle.coap_layer.proofs.Facts.Paced.{near_gap}
use Rattle.coap_client.specs.Law.{own_of}
use Rattle.coap_client_laws.specs.Follows.Holds.{moment}
use Rattle.coap_client_laws.specs.Follows.Notified.{notes}
use Rattle.coap_client.specs.Sendings.{hears}
use Rattle.coap_client.specs.Trace as C
use Rattle.coap_client.specs.Trace.{Report, Body, Valid, Value}
use Rattle.coap_client_laws.proofs.Facts.EachCall.{are_of_types, rests_here}
use Rattle.coap_client_laws.specs.Follows.Types.{IsOfType}
use Rattle.coap_promise.specs.Clocks.{Clocks, of_layers, IsLegal, Legal}
use Rattle.coap_record.specs.Events.{Config, Event}
use Rattle.coap_promise.specs.Fresh.{AreBehind, AreFresh, AreFreshIf, ComesIn, GainsAtMost, Has, IsFresh, Reported}
use Rattle.coap_promise.specs.Fresh.{RestsFrom, TickedWithin, age_in}
use Rattle.coap_promise.specs.Held.{HeldSince, ValidSince, ValueSince}
use Rattle.coap_promise.specs.Hops.{hops_in, client_adds, server_adds}
use Rattle.coap_record.specs.Legal as one
use Rattle.coap_record.specs.Record.{Entry, OfClient, OfServer, Turn, RecordOf, client_of, entries_of, server_trace}
use Rattle.coap_promise.specs.Words.{ReportsAt}
use Rattle.coap_promise.proofs.Age.Behind.{are_behind}
use Rattle.coap_promise.proofs.Age.InTurns.{Facts, fresh}
use Rattle.coap_promise.proofs.Age.ReportsYoung.{body_young, valid_young, value_young}
use Rattle.coap_promise.proofs.Age.Young.{Covers}
use Rattle.coap_promise.proofs.Facts.Delivery.HopsAreEntries.{near_near, near_far}
use Rattle.coap_promise.proofs.Paced.GivenOutBefore.{Made, side, comes_any}
use Rattle.coap_promise.proofs.Paced.HopsAreAChannel as joined
use Rattle.coap_promise.proofs.Paced.OneClock.{by_one}
use Rattle.coap_promise.proofs.Facts.Reports.FormatsSet.{formats_in_of}
use Rattle.coap_promise.proofs.Facts.Requests.CallsInRange.{ranges_by}
use Rattle.coap_promise.proofs.Facts.Requests.NoneRefused.{none_refused}
use Rattle.coap_promise.proofs.Facts.Requests.OfACall.{Lawful, lawful_back}
use Rattle.coap_promise.proofs.Facts.Requests.Promised.{comes_by, came_by}
use Rattle.coap_record.specs.declared.addresses.Addresses.{Addresses}
use Rattle.coap_promise.proofs.Facts.Requests.AtAnyTime.{at_any_time}

-- each type's age is at most the greatest
at_most : (kind : Kind) → age_in kind ≤ exchange_lifetime
at_most Con = omega arith
at_most Non = omega arith
at_most kind = omega arith

-- with nothing more asked
with_nothing : (config : Config) (shown : List Turn → Turn → ℕ) (max_age : ℕ) (Here Was : List Entry → Entry → Type 0)
    (turns : List Turn) → IsFresh config shown max_age (λ past e. Here past e × Unit {0}) Was turns
    → IsFresh config shown max_age Here Was turns
with_nothing config shown max_age Here Was [] h = tt
with_nothing config shown max_age Here Was (t ∷ past) h = (
  (λ z. h.0 (Sometime_map (λ p e. Here (p ++ entries_of past) e) (λ p e. Here (p ++ entries_of past) e × Unit {0})
      (λ p e y. (y, tt)) t.entries z)),
  with_nothing config shown max_age Here Was past h.1,
)

-- a tick at which nothing was due is one of the client's layer
module _ (config : Config) where
  in_hops : (past : List Entry) (when : ℕ) → Lawful config past → Ever (RestsFrom when) past
      → Ever (layers.RestsFrom when) (near_of (hops_in config past))
  in_hops [] when law h = absurd h
  in_hops (OfServer c ∷ past) when law (inl h) = absurd h
  in_hops (OfServer c ∷ past) when law (inr h) =
      subst (Ever (layers.RestsFrom when)) (sym (near_far (server_adds config (server_trace config past) c)
      (hops_in config past)))
      (in_hops past when (lawful_back config past (OfServer c) law) h)
  in_hops (OfClient c ∷ past) when law (inr h) =
      let adds = client_adds config (client_of past) c in
      subst (Ever (layers.RestsFrom when)) (sym (near_near adds (hops_in config past)))
      (Ever_back (layers.RestsFrom when) adds (near_of (hops_in config past))
      (in_hops past when (lawful_back config past (OfClient c) law) h))
  in_hops (OfClient (C.Ticks now word L.Idle turn sent token kept answer) ∷ past) when law (inl h) =
      let c : C.Call = C.Ticks now word L.Idle turn sent token kept answer in
      let adds = client_adds config (client_of past) c in
      subst (Ever (layers.RestsFrom when)) (sym (near_near adds (hops_in config past)))
      (Ever_front (layers.RestsFrom when) adds (near_of (hops_in config past))
      (Ever_map (layers.RestsFrom now) (layers.RestsFrom when)
      (λ e r. record { call = r.call; answer = r.answer; from = (let f = r.from in omega (arith, f, h)) }) adds
      (rests_here config.addresses.server config.client_sizes config.client_setup (client_of past) now word turn sent
      token kept answer
      law.client)))
  in_hops (OfClient c ∷ past) when law (inl h) = absurd h

module _ (k : Clocks) (config : Config) (events : List Event) (turns : List Turn) (run : RecordOf config events turns)
    (legal : Legal k config turns) where
  abbrev law : Lawful config (entries_of turns)
  law = record {
    clocks = of_layers k;
    channel = joined.channel k config events turns run legal;
    client = run.client;
    server = run.server;
    comes = comes_by k config events turns run legal;
    came = came_by k config events turns run legal;
    unrefused = none_refused config.addresses turns run.made;
  }

  facts : Facts config k legal.clocks turns
  facts = record {
    two = legal.range.addresses.two;
    law = record { law = law; is = refl };
    formats = formats_in_of config.addresses turns run.made (ranges_by config.addresses k turns legal.events);
    made = run.made;
    legal = legal.events;
    stills = joined.stills_by k config events turns run legal;
  }

  pub behind_by : AreBehind config (entries_of turns)
  behind_by = are_behind config legal.range.server_szx (entries_of turns) (at_any_time law)
      (formats_in_of config.addresses turns run.made (ranges_by config.addresses k turns legal.events))

  abbrev pub client_clock : List Turn → Turn → ℕ
  client_clock past t = k.client (length past)

  module _ (gain : ℕ) (gains : GainsAtMost k gain) where
    module _ (max_age : ℕ) (If : List Entry → Entry → Type 0)
        (covers : (past : List Entry) (c : C.Call) → Lawful config (OfClient c ∷ past) → If past (OfClient c)
        → (m : Message) → (hears c ≡ Some m) ⊎ (notes c ≡ Some m)
        → Covers config gain max_age (moment (own_of config.client_sizes (client_of past)) c) past m) where
      abbrev Here : ℕ → Report → List Entry → Entry → Type 0
      Here number report = Reported config client_clock max_age If number report

      fresh_if : AreFreshIf config client_clock max_age If turns
      fresh_if = record {
        bodies = λ number tag format body. fresh config k gain gains max_age (HeldSince config number tag format body)
            legal.clocks (record { number = number; report = Body tag format body })
            (Here number (Body tag format body))
            (λ past e h. h.0)
            (λ past b l formats h. body_young config legal.range.server_szx past b l formats gain max_age
            (covers past b l h.1)
            number tag format body h.0) turns facts;
        valid = λ number tag. fresh config k gain gains max_age (ValidSince config number tag) legal.clocks
            (record { number = number; report = Valid tag }) (Here number (Valid tag)) (λ past e h. h.0)
            (λ past b l formats h. valid_young config legal.range.server_szx past b l formats gain max_age
            (covers past b l h.1)
            number tag h.0) turns facts;
        values = λ number sequence tag format body. fresh config k gain gains max_age
            (ValueSince config number sequence tag format body) legal.clocks
            (record { number = number; report = Value sequence tag format body })
            (Here number (Value sequence tag format body)) (λ past e h. h.0)
            (λ past b l formats h. value_young config legal.range.server_szx past b l formats gain max_age
            (covers past b l h.1)
            number sequence tag format body h.0) turns facts;
      }

    -- by the type of the message
    pub fresh_in : (kind : Kind) → AreFreshIf config client_clock (age_in kind + gain) (λ past e. ComesIn kind e) turns
    fresh_in kind = fresh_if (age_in kind + gain) (λ past e. ComesIn kind e)
        (λ past c l comes m h. inl (let same : age_in m.kind
        ≡ age_in kind = ap age_in (comes m h) in omega (arith, same)))

    pub fresh_by : AreFresh config client_clock (exchange_lifetime + gain) turns
    fresh_by =
        let all : AreFreshIf config client_clock (exchange_lifetime + gain) (λ past e. Unit {0}) turns =
        fresh_if (exchange_lifetime + gain) (λ past e. Unit {0})
        (λ past c l u m h. inl (let most = at_most m.kind in omega (arith, most))) in
        record {
          bodies = λ number tag format body. with_nothing config client_clock (exchange_lifetime + gain)
              (ReportsAt config (record { number = number; report = Body tag format body }))
              (HeldSince config number tag format body) turns (all.bodies number tag format body);
          valid = λ number tag. with_nothing config client_clock (exchange_lifetime + gain)
              (ReportsAt config (record { number = number; report = Valid tag })) (ValidSince config number tag) turns
              (all.valid number tag);
          values = λ number sequence tag format body. with_nothing config client_clock (exchange_lifetime + gain)
              (ReportsAt config (record { number = number; report = Value sequence tag format body }))
              (ValueSince config number sequence tag format body) turns (all.values number sequence tag format body);
        }

    open_till : (past : List Entry) (c : C.Call) (time when : ℕ)
        → moment (own_of config.client_sizes (client_of past)) c ≤ when + time
        → moment (own_of config.client_sizes (client_of past)) c + max_transmit_wait ≤ when + (max_transmit_wait + time)
    open_till past c time when h = omega (arith, h)

    -- in an acknowledgement, where nothing of the client's layer was due not long before
    pub fresh_open : (time : ℕ) → AreFreshIf config client_clock (max_transmit_wait + time)
        (λ past e. ComesIn Ack e × TickedWithin config time past e) turns
    fresh_open time = fresh_if (max_transmit_wait + time) (λ past e. ComesIn Ack e × TickedWithin config time past e)
        (λ past c l z m h. inr (
          z.0 m h,
          (
            z.1.0,
            in_hops config past z.1.0 (lawful_back config past (OfClient c) l) z.1.1,
            open_till past c time z.1.0
                z.1.2,
          ),
        ))

    -- whatever comes, where nothing was due so long before that a CON is over by then
    pub fresh_over : (time : ℕ) → max_transmit_wait + time ≤ last_arrival
        → AreFreshIf config client_clock (last_arrival + gain) (TickedWithin config time) turns
    fresh_over time short = fresh_if (last_arrival + gain) (TickedWithin config time) covers
      where
        types_of : (past : List Entry) (c : C.Call) → Lawful config (OfClient c ∷ past) → IsOfType c
        types_of past c l = (are_of_types config.addresses.server config.client_sizes config.client_setup
            (client_of (OfClient c ∷ past)) l.client).0

        by : (past : List Entry) (c : C.Call) → Lawful config (OfClient c ∷ past)
            → TickedWithin config time past (OfClient c)
            → (m : Message) → (m.kind ≡ Con) ⊎ ((m.kind ≡ Non) ⊎ (m.kind ≡ Ack))
            → Covers config gain (last_arrival + gain) (moment (own_of config.client_sizes (client_of past)) c) past m
        by past c l z m (inl is) = inl (let a : age_in m.kind ≡ last_arrival = ap age_in is in omega (arith, a))
        by past c l z m (inr (inl is)) = inl (let a : age_in m.kind ≡ max_latency = ap age_in is in omega (arith, a))
        by past c l z m (inr (inr is)) = inr (
          is,
          (
            z.0,
            in_hops config past z.0 (lawful_back config past (OfClient c) l) z.1,
            (let t = z.2 in omega (arith, t, short)),
          ),
        )

        covers : (past : List Entry) (c : C.Call) → Lawful config (OfClient c ∷ past)
            → TickedWithin config time past (OfClient c)
            → (m : Message) → (hears c ≡ Some m) ⊎ (notes c ≡ Some m)
            → Covers config gain (last_arrival + gain) (moment (own_of config.client_sizes (client_of past)) c) past m
        covers past c l z m (inl h) = by past c l z m ((types_of past c l).heard m h)
        covers past c l z m (inr n) = by past c l z m
            (elim ((types_of past c l).noted m n) [ inl q ↦ inl q | inr q ↦ inr (inl q) ])

  in_pace : GainsAtMost k max_gain
  in_pace i j passed short h = near_gap (of_layers k) legal.clocks i j passed (omega (arith, short)) h

  pub fresh_in_pace : AreFresh config client_clock (exchange_lifetime + max_gain) turns
  fresh_in_pace = fresh_by max_gain in_pace

  pub fresh_ticking : (time : ℕ) → AreFreshIf config client_clock (max_transmit_wait + time)
      (λ past e. ComesIn Ack e × TickedWithin config time past e) turns
  fresh_ticking = fresh_open max_gain in_pace

  pub fresh_by_ticks : (time : ℕ) → max_transmit_wait + time ≤ last_arrival
      → AreFreshIf config client_clock (last_arrival + max_gain) (TickedWithin config time) turns
  fresh_by_ticks = fresh_over max_gain in_pace

-- by one clock

module _ (addresses : Addresses) (two : addresses.client ≡ addresses.server → ⊥) (f : ℕ → ℕ) where
  abbrev same : Clocks
  same = record { client = f; server = f }

  shown_at : (t : Turn) (past : List Turn) → Made addresses (t ∷ past) → IsLegal addresses same past t → f (length past)
      ≡ t.event.at
  shown_at t past made legal = ⊎_elim (λ s. s.1) (λ s. s.1)
      (side addresses two same past t.event.at t.event.word t.refused t.entries t.event.what made.0
      (comes_any addresses same past t.event.at t.event.what legal.comes))

  module _ (config : Config) (Here Was : List Entry → Entry → Type 0) where
    each_at : (now at : ℕ) → now ≡ at → (turns : List Turn) → Made addresses turns
        → Always (IsLegal addresses same) turns
        → Sometime (λ before other. Has Was before other × (now ≤ f (length before) + (exchange_lifetime + 0))) turns
        → Sometime (λ before other. Has Was before other × (at ≤ other.event.at + exchange_lifetime)) turns
    each_at now at is [] made legal h = h
    each_at now at is (t ∷ past) made legal (inr h) = inr (each_at now at is past made.1 legal.1 h)
    each_at now at is (t ∷ past) made legal (inl h) =
        let shown = shown_at t past made legal.0 in
        let young = h.1 in
        inl (h.0, omega (arith, is, shown, young))

    by_events : (turns : List Turn) → Made addresses turns → Always (IsLegal addresses same) turns
        → IsFresh config (λ past t. f (length past)) (exchange_lifetime + 0) Here Was turns
        → IsFresh config (λ past t. t.event.at) exchange_lifetime Here Was turns
    by_events [] made legal h = tt
    by_events (t ∷ past) made legal h = (
      (λ z. each_at (f (length past)) t.event.at (shown_at t past made legal.0) past made.1 legal.1 (h.0 z)),
      by_events past made.1 legal.1 h.1,
    )

pub fresh_at_one : (config : Config) (events : List Event) (turns : List Turn) → RecordOf config events turns
    → one.Legal config turns → AreFresh config (λ past t. t.event.at) exchange_lifetime turns
fresh_at_one config events turns run legal =
    let two = by_one config turns legal in
    let f = two.0 in
    let k = fresh_by (same config.addresses legal.range.addresses.two f) config events turns run two.1 0
    (λ i j passed short h. omega (arith, h)) in
    record {
      bodies = λ number tag format body. by_events config.addresses legal.range.addresses.two f config
          (ReportsAt config (record { number = number; report = Body tag format body }))
          (HeldSince config number tag format body) turns run.made two.1.events (k.bodies number tag format body);
      valid = λ number tag. by_events config.addresses legal.range.addresses.two f config
          (ReportsAt config (record { number = number; report = Valid tag })) (ValidSince config number tag) turns
          run.made two.1.events
          (k.valid number tag);
      values = λ number sequence tag format body. by_events config.addresses legal.range.addresses.two f config
          (ReportsAt config (record { number = number; report = Value sequence tag format body }))
          (ValueSince config number sequence tag format body) turns run.made two.1.events
          (k.values number sequence tag format body);
    }
