-- After the end of the delay of a request, a tick of the server begins a CON with its answer, or has begun one; and
-- where the server has nothing to do then, one was begun.
use Rattle.std.proofs.Common.{◌≡◌, ◌⊎◌, inl, inr, ⊎_elim, ◌≤◌, ◌<◌, ℕ, ◌+◌, ◌-◌, max, Some, List}
use Rattle.std.proofs.Common.{[], ◌∷◌, ◌++◌, refl, ap, sym, subst, ◌∙◌, arith}
use Rattle.std.proofs.Math.Decide.{dec_le}
use Rattle.coap_types.specs.Past.{Ever, Sometime, Always}
use Rattle.coap_types.proofs.Facts.Traces.{Ever_back, Ever_front}
use Rattle.coap_types.specs.declared.endpoint.Endpoint.{Endpoint}
use Rattle.coap_block.specs.Sizes.{Sizes}
use Rattle.coap_layer.specs.Channel.{Hop, far_of}
use Rattle.coap_layer.specs.OneClock.{ChannelLaw}
use Rattle.coap_layer.specs.Rows.{LayerLaw, Busy}
use Rattle.coap_layer.specs.Sends.{IsOpen}
use Rattle.coap_layer.specs.Taking.{ResetsMeant}
use Rattle.coap_layer.specs.Trace as L
use Rattle.coap_layer.specs.Words.{Open, begun, outstanding}
use Rattle.coap_layer.specs.declared.setup.Setup.{Setup}
use Rattle.coap_resource.specs.Limits.{Limits}
use Rattle.coap_client_laws.specs.Follows.Open.{AllEndInTime, HearsOfOpen}
use Rattle.coap_client.specs.Sendings.{Sending}
use Rattle.coap_client.specs.Law.{ClientLaw}
use Rattle.coap_client.specs.Trace as C
use Rattle.coap_client_laws.proofs.Facts.Exchanges.{open_before}
use Rattle.coap_server.specs.Follows.Attended.{CanAnswer, NoId}
use Rattle.coap_server_laws.specs.Follows.Begins.{NoneToAnswer, NoneToNotify}
use Rattle.coap_server.specs.Follows.Observes.{AreObservers}
use Rattle.coap_server.specs.Follows.Waits.{WaitsStill}
use Rattle.coap_server.specs.Law.{ServerLaw, own_of}
use Rattle.coap_server.specs.Trace as S
use Rattle.coap_server.specs.Trace.{Waiting}
use Rattle.coap_server_laws.proofs.Facts.Laws as server_facts
use Rattle.coap_smooth.specs.AtOnce.{WaitedIn, LastWaits}
use Rattle.coap_record.specs.Events.{Config, TickServer}
use Rattle.coap_smooth.specs.HasIds.{HasIds}
use Rattle.coap_promise.specs.Hops.{hops_of, server_adds}
use Rattle.coap_record.specs.Legal.{IsConfig}
use Rattle.coap_record.specs.Record.{Entry, OfClient, OfServer, Turn, entries_of, client_of, server_trace}
use Rattle.coap_smooth.specs.Separate.{CarriesAnswer}
use Rattle.coap_smooth.specs.Smooth.{max_age, TakesNoObservation}
use Rattle.coap_smooth.specs.Young.{longest, max_open}
use Rattle.coap_smooth.specs.TicksLeave.{LeavesNone, RestsThen}
use Rattle.coap_promise.proofs.Facts.Delivery.HopsAreEntries.{server_layer, server_next, far_is}
use Rattle.coap_smooth.proofs.Smoothly.Arriving.AllTaken.{Goes, goes_before, taken_here}
use Rattle.coap_smooth.proofs.Smoothly.Answers.OpenTo.{OpenTo, busy_or_not, open_to, front_of}
use Rattle.coap_smooth.proofs.Smoothly.Requests.AtOnce.{Laws, last_waits}
use Rattle.coap_smooth.proofs.Smoothly.Answers.ConsOfOpen.{OpensAlone, of_each, until, alone_before}
use Rattle.coap_smooth.proofs.Smoothly.Answers.ConsOfOpen.{carries_now, carries_since, first_until}
use Rattle.coap_smooth.proofs.Smoothly.Requests.DelaysAreShort.{no_longer, over_a_second}
use Rattle.coap_smooth.proofs.Smoothly.Answers.ExchangeOpen.{open_since, last_of}
use Rattle.coap_smooth.proofs.Smoothly.Requests.RequestOpen.{open_was_begun}
use Rattle.coap_smooth.proofs.Smoothly.Ticks.NothingIsLeft.{ForServer}
use Rattle.coap_smooth.proofs.Smoothly.Ticks.NothingIsLeft.{server_behind}
use Rattle.coap_smooth.proofs.Smoothly.Ticks.TicksAnswer.{ticks_answer}
use Rattle.coap_smooth.proofs.Smoothly.Ticks.TicksLeave.{ticks_leave}
use Rattle.coap_smooth.proofs.Smoothly.Requests.WaitedBefore.{waited_before}

-- what the laws beneath say
pub record YoungLaws : Type 0 where
  pub laws : Laws
  pub in_time : (server : Endpoint) (sizes : Sizes) (setup : Setup) (t : List C.Call) → ClientLaw server sizes setup t
      → AllEndInTime sizes t
  pub resets : (one other : Setup) (near far : Endpoint) (all : List Hop) → ChannelLaw one other near far all
      → ResetsMeant near far all
  pub hears : (server : Endpoint) (sizes : Sizes) (setup : Setup) (t : List C.Call) → ClientLaw server sizes setup t
      → HearsOfOpen server sizes setup t
  pub observers : (limits : Limits) (szx : ℕ) (t : List S.Call) → AreObservers limits szx t

passed : (clock now delay most since at : ℕ) → since ≤ at + max_age → delay ≤ most → at + most + max_age ≤ now
    → delay ≤ max clock now - since
passed clock now delay most since at h k l = omega (arith, h, k, l)

module _ (config : Config) (range : IsConfig config) (needs : YoungLaws)
    (short : max_open config < 247000) where
  -- how long a request may have to wait
  abbrev pub most : ℕ
  most = longest config.delays

  pub observers : (t : List S.Call) → AreObservers config.limits config.server_szx t
  observers t = needs.observers config.limits config.server_szx t

  abbrev pub Alone : ℕ → Sending → List Turn → Type 0
  Alone at x turns = OpensAlone config range observers at x (client_of (entries_of turns))

  -- a CON with the answer was begun, by then
  pub record Answers (x : Sending) (till : ℕ) (turns : List Turn) : Type 0 where
    pub con : Open
    pub begun_there : Ever (λ b. begun b ≡ Some con) (server_layer config (server_trace config (entries_of turns)))
    pub carries : CarriesAnswer config.addresses x con
    pub soon : con.first ≤ till

  pub later : (x : Sending) (till : ℕ) (turn : Turn) (past : List Turn) → Answers x till past
      → Answers x till (turn ∷ past)
  later x till turn past k = record {
    con = k.con;
    begun_there = lift turn.entries (entries_of past) k.begun_there;
    carries = k.carries;
    soon = k.soon;
  }
    where
      lift : (es old : List Entry)
          → Ever (λ b. begun b ≡ Some k.con) (server_layer config (server_trace config old))
          → Ever (λ b. begun b ≡ Some k.con) (server_layer config (server_trace config (es ++ old)))
      lift [] old h = h
      lift (OfClient c ∷ es) old h = lift es old h
      lift (OfServer c ∷ es) old h =
          let t : List S.Call = server_trace config (es ++ old) in
          subst (Ever (λ b. begun b ≡ Some k.con)) (sym (server_next config t c))
          (Ever_back (λ b. begun b ≡ Some k.con) (server_adds config t c) (server_layer config t) (lift es old h))

  -- a tick that answered what waited
  record TickBegan (x : Sending) (es : List Entry) : Type 0 where
    con : Open
    begun_there : Ever (λ b. begun b ≡ Some con) (server_layer config (server_trace config es))
    carries : CarriesAnswer config.addresses x con

  tick_began : (x : Sending) (w : Waiting) (es : List Entry) → ForServer config es → w.asked.from
      ≡ config.addresses.client
      → w.asked.token ≡ x.token → Sometime (WaitedIn config w) es → TickBegan x es
  tick_began x w [] law from token h = absurd h
  tick_began x w (OfClient c ∷ es) law from token (inl k) = absurd k
  tick_began x w (OfClient c ∷ es) law from token (inr h) =
      let k = tick_began x w es law from token h in
      record { con = k.con; begun_there = k.begun_there; carries = k.carries }
  tick_began x w (OfServer c ∷ es) law from token (inr h) =
      let k = tick_began x w es (server_behind config (OfServer c ∷ []) es law) from token h in
      let t : List S.Call = server_trace config es in
      record {
        con = k.con;
        begun_there = subst (Ever (λ b. begun b ≡ Some k.con)) (sym (server_next config t c))
            (Ever_back (λ b. begun b ≡ Some k.con) (server_adds config t c) (server_layer config t) k.begun_there);
        carries = k.carries;
      }
  tick_began x w (OfServer c ∷ es) law from token (inl k) =
      let t : List S.Call = server_trace config es in
      let r = (ticks_answer config range (OfServer c ∷ es) law).0 c k.now k.answer w.asked x refl k.tick k.answers from
      token in
      record {
        con = r.0;
        begun_there = subst (Ever (λ b. begun b ≡ Some r.0)) (sym (server_next config t c))
            (Ever_front (λ b. begun b ≡ Some r.0) (server_adds config t c) (server_layer config t) r.1);
        carries = r.2;
      }

  -- a tick of the server behind the end of the delay, where the exchange is still open
  module _ (turn tick : Turn) (past : List Turn) (g : Goes config (turn ∷ tick ∷ past)) (at : ℕ) (x : Sending)
      (alone : Alone at x (tick ∷ past)) (late : at + most + max_age ≤ tick.event.at)
      (what : tick.event.what ≡ TickServer) (ids : HasIds config (tick ∷ past)) where
    abbrev es : List Entry
    es = entries_of (tick ∷ past)

    abbrev t : List S.Call
    t = server_trace config es

    g_tick : Goes config (tick ∷ past)
    g_tick = goes_before config turn (tick ∷ past) g

    till_now : Always (λ p (u : Turn). u.event.at ≤ tick.event.at) (tick ∷ past)
    till_now =
        let same : tick.event.at ≤ tick.event.at = omega arith in
        until config.addresses (tick ∷ past) g_tick.stands.legal tick.event.at same

    -- what is begun is so by now
    answers_by : (con : Open) → Ever (λ b. begun b ≡ Some con) (server_layer config t)
        → CarriesAnswer config.addresses x con
        → Answers x tick.event.at (tick ∷ past)
    answers_by con there carries = record {
      con = con;
      begun_there = there;
      carries = carries;
      soon = first_until config range observers at x con carries.to (tick ∷ past) g_tick.stands tick.event.at till_now
          there;
    }

    -- one that is outstanding carries it too, since an older one would be over
    module _ (ticks : List S.Call) (o : OpenTo config.addresses.client
        (server_layer config (ticks ++ server_trace config (entries_of past))))
        (newer : List S.Call) (is : t ≡ newer ++ (ticks ++ server_trace config (entries_of past))) where
      abbrev older : List S.Call
      older = ticks ++ server_trace config (entries_of past)

      abbrev IsBegun : List L.Entry → Type 0
      IsBegun l = Ever (λ b. begun b ≡ Some o.con) l

      stands_in : LayerLaw config.server_setup (server_layer config older)
      stands_in = server_facts.layer config.limits config.server_szx config.server_setup older
          (server_facts.back config.limits config.server_szx config.server_setup newer older
          (subst (ServerLaw config.limits config.server_szx config.server_setup) is g_tick.stands.server))

      there : IsBegun (server_layer config t)
      there = subst (λ z. IsBegun (server_layer config z)) (sym is)
          (let k = front_of config newer older in
          subst IsBegun (sym k.1) (Ever_back (λ b. begun b ≡ Some o.con) k.0 (server_layer config older)
          (open_was_begun (server_layer config older) o.con o.is_open)))

      old_is_over : o.con.first + max_age + max_age < tick.event.at
          → IsBegun (server_layer config (server_trace config (entries_of past))) → ⊥
      old_is_over old was =
          let far : far_of (hops_of config past) ≡ server_layer config (server_trace config (entries_of past)) =
          far_is config (entries_of past) in
          let k = front_of config ticks (server_trace config (entries_of past)) in
          let was_open = open_before config.server_setup k.0 (server_layer config
          (server_trace config (entries_of past)))
          o.con (subst (LayerLaw config.server_setup) k.1 stands_in) was
          (subst (λ l. IsOpen l o.con) k.1 o.is_open) in
          (taken_here config needs.laws.beneath tick past g_tick).over o.con (subst IsBegun (sym far) was) o.there old
          (subst (λ l. IsOpen l o.con) (sym far) was_open)

      busy : Answers x tick.event.at (tick ∷ past)
      busy =
          by (carries_now config range observers at x o.con o.there tick past g_tick.stands
          (alone_before config range observers tick past g_tick.stands at x (omega (arith, late)) alone) there)
        where
          by : CarriesAnswer config.addresses x o.con
              ⊎ IsBegun (server_layer config (server_trace config (entries_of past)))
              → Answers x tick.event.at (tick ∷ past)
          by (inl carries) = answers_by o.con there carries
          by (inr was) =
              elim (dec_le (1 + (o.con.first + max_age + max_age)) tick.event.at) [
                | yes old ↦ absurd (old_is_over (omega (arith, old)) was)
                | no young ↦ answers_by o.con there
                    (carries_since config range observers at x o.con o.there (tick ∷ past) g_tick.stands
                    (let least = over_a_second config.delays in omega (arith, young, late, least)) alone there)
              ]

    -- nothing waits behind it, unless a CON is outstanding
    waits_no_more : (w : Waiting) → w.asked.from ≡ config.addresses.client → w.at ≤ at + max_age → w.delay ≤ most
        → WaitsStill config.limits config.server_szx w t → Answers x tick.event.at (tick ∷ past)
    waits_no_more w from since delay still =
        by l.none (busy_or_not w.asked.from (outstanding (server_layer config
        (l.ticks ++ server_trace config (entries_of past)))))
      where
        l : LeavesNone config tick.event.at (server_trace config (entries_of past)) t
        l = (ticks_leave config (tick ∷ past) g_tick.stands.made g_tick.stands.server).0 what
            g_tick.stands.goes.0.all_made

        waited : WaitsStill config.limits config.server_szx w (l.ticks ++ server_trace config (entries_of past))
        waited = waited_before config.limits config.server_szx w l.later
            (l.ticks ++ server_trace config (entries_of past)) l.none_in
            (subst (WaitsStill config.limits config.server_szx w) l.is still)

        by : NoId config.limits config.server_szx config.server_setup (l.ticks ++ server_trace config (entries_of past))
            tick.event.at
            ⊎ NoneToAnswer config.limits config.server_szx config.server_setup
            (l.ticks ++ server_trace config (entries_of past)) tick.event.at
            → Busy (server_layer config (l.ticks ++ server_trace config (entries_of past))) w.asked.from
            ⊎ (Busy (server_layer config (l.ticks ++ server_trace config (entries_of past))) w.asked.from → ⊥)
            → Answers x tick.event.at (tick ∷ past)
        by (inl no_id) b = absurd (ids.0 tick.event.at l.later (l.ticks ++ server_trace config (entries_of past))
            l.is no_id)
        by (inr none) (inl is_busy) =
            busy l.ticks (open_to config.addresses.client (server_layer config
            (l.ticks ++ server_trace config (entries_of past)))
            (subst (Busy (server_layer config (l.ticks ++ server_trace config (entries_of past)))) from is_busy))
            l.later l.is
        by (inr none) (inr free) =
            absurd (of_each (λ y. CanAnswer config.limits config.server_szx config.server_setup
            (l.ticks ++ server_trace config (entries_of past))
            tick.event.at y → ⊥) w (own_of config.limits config.server_szx
            (l.ticks ++ server_trace config (entries_of past))).waiting none waited
            (record {
              passed = passed (own_of config.limits config.server_szx
                  (l.ticks ++ server_trace config (entries_of past))).clock tick.event.at w.delay most w.at at since
                  delay
                  late;
              alone = free;
            }))

    pub at_tick : Always (λ p c. TakesNoObservation c) (client_of es) → Answers x tick.event.at (tick ∷ past)
    at_tick none =
        by (last_waits config needs.laws turn (tick ∷ past) g none at
        (open_since config.addresses.server config.client_sizes config.client_setup at x (client_of es) alone.is_open)
        (let later_than = g.stands.legal.0.later in let least = over_a_second config.delays in omega
        (arith, later_than, late, least)))
      where
        by : LastWaits config at (tick ∷ past) → Answers x tick.event.at (tick ∷ past)
        by k =
            let both : Some k.sending ≡ Some x =
            sym k.last ∙ last_of config.addresses.server config.client_sizes config.client_setup at x (client_of es)
            alone.is_open in
            let same : k.sending ≡ x = cc both in
            let token = k.token ∙ ap (λ (z : Sending). z.token) same in
            ⊎_elim (λ still. waits_no_more k.waiting k.from k.since (no_longer k.waiting.delay config.delays k.delay)
            still)
            (λ answered. (let r = tick_began x k.waiting es g_tick.stands.server k.from token answered in
            answers_by r.con r.begun_there r.carries))
            k.waits

  -- the server has nothing to do after the end of the delay, where the exchange is still open
  module _ (next last : Turn) (older : List Turn) (g : Goes config (next ∷ last ∷ older)) (at : ℕ) (x : Sending)
      (alone : Alone at x (last ∷ older)) (r : RestsThen config (at + most + max_age) (last ∷ older) next)
      (ids : HasIds config (last ∷ older)) where
    abbrev es_then : List Entry
    es_then = entries_of (last ∷ older)

    abbrev resting : List S.Call
    resting = server_trace config es_then

    g_rest : Goes config (last ∷ older)
    g_rest = goes_before config next (last ∷ older) g

    -- a tick would do nothing
    left : NoId config.limits config.server_szx config.server_setup resting r.now
        ⊎ (NoneToAnswer config.limits config.server_szx config.server_setup resting r.now
        × NoneToNotify config.limits config.server_szx config.server_setup resting)
    left =
        (server_facts.none_left config.limits config.server_szx config.server_setup (r.rests.0 ∷ resting) r.rests.2).0
        r.now r.rests.1

    by_then : (us : List Turn) → Always (λ p (u : Turn). u.event.at < at + most + max_age + max_age) us
        → Always (λ p (u : Turn). u.event.at ≤ at + most + 1999) us
    by_then [] h = tt
    by_then (u ∷ us) h = (let a = h.0 in omega (arith, a), by_then us h.1)

    -- what is begun is so by the last of these turns
    answers_then : (con : Open) → Ever (λ b. begun b ≡ Some con) (server_layer config resting)
        → CarriesAnswer config.addresses x con
        → Answers x (at + most + 1999) (last ∷ older)
    answers_then con there carries = record {
      con = con;
      begun_there = there;
      carries = carries;
      soon = first_until config range observers at x con carries.to (last ∷ older) g_rest.stands (at + most + 1999)
          (by_then (last ∷ older) r.till) there;
    }

    -- one that is outstanding carries it too, since an older one would be over at the next event
    busy_then : OpenTo config.addresses.client (server_layer config resting)
        → Answers x (at + most + 1999) (last ∷ older)
    busy_then o =
        elim (dec_le (1 + (o.con.first + max_age + max_age)) next.event.at) [
          | yes old ↦ absurd ((taken_here config needs.laws.beneath next (last ∷ older) g).over o.con
              (subst (Ever (λ b. begun b ≡ Some o.con)) (sym far) there) o.there (omega (arith, old))
              (subst (λ l. IsOpen l o.con) (sym far) o.is_open))
          | no young ↦ answers_then o.con there
              (carries_since config range observers at x o.con o.there (last ∷ older) g_rest.stands
              (let from = r.from in
              let before_next = r.before in
              let least = over_a_second config.delays in
              omega (arith, young, from, before_next, least)) alone there)
        ]
      where
        far : far_of (hops_of config (last ∷ older)) ≡ server_layer config resting
        far = far_is config es_then

        there : Ever (λ b. begun b ≡ Some o.con) (server_layer config resting)
        there = open_was_begun (server_layer config resting) o.con o.is_open

    -- nothing waits then, unless a CON is outstanding
    waits_not : (w : Waiting) → w.asked.from ≡ config.addresses.client → w.at ≤ at + max_age → w.delay ≤ most
        → WaitsStill config.limits config.server_szx w resting → Answers x (at + most + 1999) (last ∷ older)
    waits_not w from since delay still =
        by left (busy_or_not w.asked.from (outstanding (server_layer config resting)))
      where
        by : NoId config.limits config.server_szx config.server_setup resting r.now
            ⊎ (NoneToAnswer config.limits config.server_szx config.server_setup resting r.now
            × NoneToNotify config.limits config.server_szx config.server_setup resting)
            → Busy (server_layer config resting) w.asked.from
            ⊎ (Busy (server_layer config resting) w.asked.from → ⊥)
            → Answers x (at + most + 1999) (last ∷ older)
        by (inl no_id) b = absurd (ids.0 r.now [] resting refl no_id)
        by (inr none) (inl is_busy) =
            busy_then (open_to config.addresses.client (server_layer config resting)
            (subst (Busy (server_layer config resting)) from is_busy))
        by (inr none) (inr free) =
            absurd (of_each (λ y. CanAnswer config.limits config.server_szx config.server_setup resting r.now y → ⊥) w
            (own_of config.limits config.server_szx resting).waiting none.0 still
            (record {
              passed = passed (own_of config.limits config.server_szx resting).clock r.now w.delay most w.at at since
                  delay r.from;
              alone = free;
            }))

    pub at_rest : Always (λ p c. TakesNoObservation c) (client_of es_then) → Answers x (at + most + 1999) (last ∷ older)
    at_rest none =
        by (last_waits config needs.laws next (last ∷ older) g none at
        (open_since config.addresses.server config.client_sizes config.client_setup at x (client_of es_then)
        alone.is_open)
        (let from = r.from in
        let before_next = r.before in
        let least = over_a_second config.delays in
        omega (arith, from, before_next, least)))
      where
        by : LastWaits config at (last ∷ older) → Answers x (at + most + 1999) (last ∷ older)
        by k =
            let both : Some k.sending ≡ Some x =
            sym k.last ∙ last_of config.addresses.server config.client_sizes config.client_setup at x
            (client_of es_then) alone.is_open in
            let same : k.sending ≡ x = cc both in
            let token = k.token ∙ ap (λ (z : Sending). z.token) same in
            ⊎_elim (λ still. waits_not k.waiting k.from k.since (no_longer k.waiting.delay config.delays k.delay) still)
            (λ answered. (let b = tick_began x k.waiting es_then g_rest.stands.server k.from token answered in
            answers_then b.con b.begun_there b.carries))
            k.waits
