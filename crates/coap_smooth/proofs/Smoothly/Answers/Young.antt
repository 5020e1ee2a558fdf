-- Where a Message ID is free for the server, and nothing is observed, no exchange of a smooth run is open
-- for longer than a request may have to wait, and 2,999 ms.
use Rattle.std.proofs.Common.{◌≡◌, inl, inr, ⊎_elim, ◌≤◌, ◌<◌, ℕ, ◌+◌, Some, List}
use Rattle.std.proofs.Common.{[], ◌∷◌, sym, subst, arith}
use Rattle.std.proofs.Math.Decide.{dec_le}
use Rattle.coap_types.specs.Past.{Ever, Sometime, Always}
use Rattle.coap_layer.specs.Words.{begun}
use Rattle.coap_client_laws.specs.Follows.Open.{IsOpenSince}
use Rattle.coap_client.specs.Sendings.{Sending}
use Rattle.coap_client.specs.Trace as C
use Rattle.coap_server.specs.Follows.Observes.{AreObservers}
use Rattle.coap_server.specs.Trace as S
use Rattle.coap_server.specs.Trace.{Waiting}
use Rattle.coap_record.specs.Events.{Config}
use Rattle.coap_smooth.specs.HasIds.{HasIds}
use Rattle.coap_promise.specs.Hops.{hops_of}
use Rattle.coap_record.specs.Legal.{IsConfig, AllLegal}
use Rattle.coap_record.specs.Record.{Turn, entries_of, client_of}
use Rattle.coap_smooth.specs.Smooth.{max_age, TakesNoObservation}
use Rattle.coap_smooth.specs.Young.{longest, max_open, AreYoung}
use Rattle.coap_smooth.specs.TicksLeave.{TicksThen, RestsThen}
use Rattle.coap_promise.proofs.Facts.Delivery.HopsAreAChannel as joined
use Rattle.coap_promise.proofs.Facts.Delivery.HopsAreEntries.{far_is}
use Rattle.coap_smooth.proofs.Smoothly.Arriving.AllTaken.{Goes, goes_before}
use Rattle.coap_smooth.proofs.Smoothly.Requests.AtOnce.{last_waits}
use Rattle.coap_smooth.proofs.Smoothly.Answers.ByAnswers.{by_answers}
use Rattle.coap_smooth.proofs.Smoothly.Answers.ConsOfOpen.{calls_before, alone_before}
use Rattle.coap_smooth.proofs.Smoothly.Answers.ConsOfOpen.{opened_before}
use Rattle.coap_smooth.proofs.Smoothly.Requests.DelaysAreShort.{with_longest, two_at_least}
use Rattle.coap_smooth.proofs.Smoothly.Answers.ExchangeOpen.{OpenOf, open_of, last_of}
use Rattle.coap_smooth.proofs.Smoothly.Answers.NoTimeout.{no_timeouts}
use Rattle.coap_smooth.proofs.Smoothly.Answers.SeparateEnds.{ends_here}
use Rattle.coap_smooth.proofs.Smoothly.Ticks.NothingIsLeft.{Stands, before, legal_of, record_of}
use Rattle.coap_smooth.proofs.Smoothly.Ticks.KeepsUp.{keeps_up_soon}
use Rattle.coap_smooth.proofs.Smoothly.Answers.AnswerBegins as begins
use Rattle.coap_smooth.proofs.Smoothly.Answers.AnswerBegins.{YoungLaws}

module _ (config : Config) (range : IsConfig config) (needs : YoungLaws)
    (short : max_open config < 247000) where
  abbrev most : ℕ
  most = longest config.delays

  abbrev observers : (t : List S.Call) → AreObservers config.limits config.server_szx t
  observers t = begins.observers config range needs short t

  abbrev Alone : ℕ → Sending → List Turn → Type 0
  Alone at x turns = begins.Alone config range needs short at x turns

  abbrev Answers : Sending → ℕ → List Turn → Type 0
  Answers x till turns = begins.Answers config range needs short x till turns

  -- what is behind a tick is no earlier
  ticked_since : (at : ℕ) (turn : Turn) (past : List Turn) → Ever (TicksThen (at + most + max_age)) past
      → AllLegal config.addresses (turn ∷ past) → at + most + max_age ≤ turn.event.at
  ticked_since at turn [] h legal = absurd h
  ticked_since at turn (u ∷ past) (inl k) legal =
      let from = k.from in let order = legal.0.later in omega (arith, from, order)
  ticked_since at turn (u ∷ past) (inr k) legal =
      let from = ticked_since at u past k legal.1 in let order = legal.0.later in omega (arith, from, order)

  -- .. and what comes next where the server has nothing to do
  rested_since : (at : ℕ) (turn : Turn) (past : List Turn)
      → Sometime (RestsThen config (at + most + max_age)) (turn ∷ past)
      → AllLegal config.addresses (turn ∷ past) → at + most + max_age ≤ turn.event.at
  rested_since at turn past (inl r) legal =
      let from = r.from in let before_next = r.before in omega (arith, from, before_next)
  rested_since at turn [] (inr h) legal = absurd h
  rested_since at turn (u ∷ past) (inr h) legal =
      let from = rested_since at u past h legal.1 in let order = legal.0.later in omega (arith, from, order)

  -- the tick is found
  find : (turn : Turn) (past : List Turn) → Goes config (turn ∷ past) → HasIds config past
      → Always (λ p c. TakesNoObservation c) (client_of (entries_of past)) → (at : ℕ) (x : Sending) → Alone at x past
      → Ever (TicksThen (at + most + max_age)) past
      → Answers x (at + most + 1999) past
  find turn [] g ids none at x alone h = absurd h
  find turn (tick ∷ past) g ids none at x alone (inl h) =
      let k = begins.at_tick config range needs short turn tick past g at x alone h.from h.what ids none in
      let till = h.till in
      let soon = k.soon in
      record { con = k.con; begun_there = k.begun_there; carries = k.carries; soon = omega (arith, soon, till) }
  find turn (tick ∷ past) g ids none at x alone (inr h) =
      let g_tick = goes_before config turn (tick ∷ past) g in
      let since = ticked_since at tick past h g_tick.stands.legal in
      begins.later config range needs short x _ tick past
      (find tick past g_tick ids.1 (calls_before _ tick.entries (entries_of past) none) at x
      (alone_before config range observers tick past g_tick.stands at x (omega (arith, since)) alone) h)

  -- .. or where it has nothing to do
  find_rest : (turn : Turn) (past : List Turn) → Goes config (turn ∷ past) → HasIds config past
      → Always (λ p c. TakesNoObservation c) (client_of (entries_of past)) → (at : ℕ) (x : Sending) → Alone at x past
      → Sometime (RestsThen config (at + most + max_age)) (turn ∷ past)
      → Answers x (at + most + 1999) past
  find_rest turn [] g ids none at x alone h = absurd alone.is_open
  find_rest turn (last ∷ past) g ids none at x alone (inl r) =
      begins.at_rest config range needs short turn last past g at x alone r ids none
  find_rest turn (last ∷ past) g ids none at x alone (inr h) =
      let g_last = goes_before config turn (last ∷ past) g in
      let since = rested_since at last past h g_last.stands.legal in
      begins.later config range needs short x _ last past
      (find_rest last past g_last ids.1 (calls_before _ last.entries (entries_of past) none) at x
      (alone_before config range observers last past g_last.stands at x (omega (arith, since)) alone) h)

  -- an exchange that is open began at an event
  began_in : (turns : List Turn) → Stands config turns → (at : ℕ) (x : Sending)
      → OpenOf config.addresses.server config.client_sizes config.client_setup at x (client_of (entries_of turns))
      → (when : ℕ)
      → at < when → Ever (λ (u : Turn). u.event.at < when) turns
  began_in [] s at x o when later = absurd o
  began_in (turn ∷ past) s at x o when later =
      elim (dec_le (1 + at) turn.event.at) [
        | yes h ↦ inr (began_in past (before config turn past s) at x
            (opened_before config range observers turn past s at x (omega (arith, h)) o) when later)
        | no h ↦ inl (omega (arith, h, later))
      ]

  module _ (turn : Turn) (past : List Turn) (g : Goes config (turn ∷ past)) (ids : HasIds config past)
      (none : Always (λ p c. TakesNoObservation c) (client_of (entries_of past))) (older : AreYoung config past)
      (at : ℕ) (is_open : IsOpenSince config.client_sizes at (client_of (entries_of past))) where
    abbrev calls : List C.Call
    calls = client_of (entries_of past)

    s_past : Stands config past
    s_past = before config turn past g.stands

    too_old : at + max_open config < turn.event.at → ⊥
    too_old late =
        let two = two_at_least config.delays in
        let waits = last_waits config needs.laws turn past g none at is_open (omega (arith, late, two)) in
        let is = with_longest waits.waiting.delay config.delays waits.delay in
        let k = open_of config.addresses.server config.client_sizes config.client_setup at calls s_past.client
        is_open in
        let x : Sending = k.0 in
        let alone : Alone at x past = record {
          observed = needs.laws.observed config.addresses.server config.client_sizes config.client_setup calls
              s_past.client;
          none = none;
          of_open = needs.hears config.addresses.server config.client_sizes config.client_setup calls s_past.client;
          ends = by_answers config short past s_past older
              (no_timeouts config needs.laws needs.in_time past (goes_before config turn past g) none)
              (needs.in_time config.addresses.server config.client_sizes config.client_setup calls s_past.client)
              (needs.resets config.client_setup config.server_setup config.addresses.client config.addresses.server
              (hops_of config past)
              (joined.channel config _ past (record_of config past s_past) (legal_of config past s_past)));
          is_open = k.1;
        } in
        let kept = keeps_up_soon config turn past g.stands.legal g.stands.goes (at + most + max_age)
        (began_in past s_past at x k.1 (at + most + max_age) (omega arith)) (omega (arith, late, is)) in
        let r : Answers x (at + most + 1999) past = ⊎_elim (λ ticks. find turn past g ids none at x alone ticks)
        (λ rests. find_rest turn past g ids none at x alone rests) kept in
        let soon = r.soon in
        ends_here config needs.laws turn past g none at is_open x
        (last_of config.addresses.server config.client_sizes config.client_setup at x calls k.1) r.con
        (subst (Ever (λ b. begun b ≡ Some r.con)) (sym (far_is config (entries_of past))) r.begun_there) r.carries
        (omega (arith, soon, late, is))

    is_young : turn.event.at ≤ at + max_open config
    is_young = elim (dec_le turn.event.at (at + max_open config)) [
      | yes h ↦ h
      | no h ↦ absurd (too_old (omega (arith, h)))
    ]

  pub are_young : (turns : List Turn) → Goes config turns → HasIds config turns
      → Always (λ p c. TakesNoObservation c) (client_of (entries_of turns)) → AreYoung config turns
  are_young [] g ids none = tt
  are_young (turn ∷ past) g ids none =
      let none_then = calls_before _ turn.entries (entries_of past) none in
      let older = are_young past (goes_before config turn past g) ids.1 none_then in
      (λ at is_open. is_young turn past g ids.1 none_then older at is_open, older)
