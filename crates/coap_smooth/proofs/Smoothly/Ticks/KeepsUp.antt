-- In a smooth run the server ticks less than 1,000 ms after each moment, or has nothing to do then.
use Rattle.std.proofs.Common.{◌≡◌, ◌⊎◌, inl, inr, ◌≤◌, ◌<◌, ℕ, ◌+◌, List, [], ◌∷◌, arith}
use Rattle.std.proofs.Math.Decide.{dec_le}
use Rattle.coap_types.specs.Past.{Ever, Sometime, Always}
use Rattle.coap_record.specs.Events.{Config, TickServer}
use Rattle.coap_record.specs.Legal.{AllLegal}
use Rattle.coap_record.specs.Record.{Turn}
use Rattle.coap_smooth.specs.Smooth.{max_age, GoesSmoothly, HasRested, KeepsUp, KeepUp, ServerRests, TicksOften}
use Rattle.coap_smooth.specs.TicksLeave.{TicksThen, RestsThen, KeepsUpInTime}
use Rattle.coap_record.specs.declared.addresses.Addresses.{Addresses}

-- who ticks each 1,000 ms keeps up
pub keep_up : (config : Config) (turns : List Turn) → TicksOften turns → KeepUp config turns
keep_up config [] often = tt
keep_up config (turn ∷ past) often = ((inl often.0.0, inl often.0.1), keep_up config past often.1)

abbrev AllBefore : ℕ → List Turn → Type 0
AllBefore late us = Always (λ p (u : Turn). u.event.at < late) us

-- moments don't fall
all_before : (addresses : Addresses) (late : ℕ) (t : Turn) (us : List Turn) → AllLegal addresses (t ∷ us)
    → t.event.at < late → AllBefore late (t ∷ us)
all_before addresses late t [] legal h = (h, tt)
all_before addresses late t (u ∷ us) legal h =
    let order = legal.0.later in (h, all_before addresses late u us legal.1 (omega (arith, order, h)))

-- the run began before, so it is older
old_enough : (past : List Turn) (at when : ℕ) → Ever (λ (t : Turn). t.event.at < when) past
    → Always (λ p (t : Turn). at ≤ t.event.at + max_age) past → when + max_age ≤ at → ⊥
old_enough [] at when h all late = h
old_enough (t ∷ past) at when (inl h) all late = let k = all.0 in omega (arith, h, k, late)
old_enough (t ∷ past) at when (inr h) all late = old_enough past at when h all.1 late

module _ (config : Config) where
  abbrev pub Found : ℕ → Turn → List Turn → Type 0
  Found when turn past = Ever (TicksThen when) past ⊎ Sometime (RestsThen config when) (turn ∷ past)

  -- at the first event that is 1,000 ms after the moment
  module _ (at when : ℕ) (late : when + max_age ≤ at) where
    ticked : (us : List Turn) → AllBefore (when + max_age) us
        → Ever (λ (t : Turn). (t.event.what ≡ TickServer) × (at ≤ t.event.at + max_age)) us
        → Ever (TicksThen when) us
    ticked [] all h = h
    ticked (u ∷ us) all (inl h) =
        let since = h.1 in
        let early = all.0 in
        inl (record { what = h.0; from = omega (arith, since, late); till = early })
    ticked (u ∷ us) all (inr h) = inr (ticked us all.1 h)

    rested : (next : Turn) (us : List Turn) → AllBefore (when + max_age) us
        → HasRested (ServerRests config) at next.event.at us → Sometime (RestsThen config when) (next ∷ us)
    rested next [] all h = absurd h
    rested next (u ∷ us) all (inl h) =
        let soon = h.soon in
        inl (record {
          now = h.now;
          from = omega (arith, soon, late);
          since = h.since;
          before = h.before;
          till = all;
          rests = h.rests;
        })
    rested next (u ∷ us) all (inr h) = inr (rested u us all.1 h)

  here : (turn : Turn) (past : List Turn) (when : ℕ) → AllBefore (when + max_age) past
      → Ever (λ (t : Turn). t.event.at < when) past → when + max_age ≤ turn.event.at
      → KeepsUp TickServer (ServerRests config) past turn.event.at → Found when turn past
  here turn past when all old late (inl (inl e)) = inl (ticked turn.event.at when late past all e)
  here turn past when all old late (inl (inr young)) = absurd (old_enough past turn.event.at when old young late)
  here turn past when all old late (inr r) = inr (rested turn.event.at when late turn past all r)

  older : (t : Turn) (past : List Turn) (when : ℕ) → Ever (λ (u : Turn). u.event.at < when) (t ∷ past)
      → when + max_age ≤ t.event.at → Ever (λ (u : Turn). u.event.at < when) past
  older t past when (inl h) late = absurd (omega (arith, h, late))
  older t past when (inr h) late = h

  pub keeps_up_soon : (turn : Turn) (past : List Turn) → AllLegal config.addresses (turn ∷ past)
      → Always (GoesSmoothly config) (turn ∷ past) → (when : ℕ)
      → Ever (λ (t : Turn). t.event.at < when) past → when + max_age ≤ turn.event.at → Found when turn past
  keeps_up_soon turn [] legal goes when old late = absurd old
  keeps_up_soon turn (t ∷ past) legal goes when old late =
      elim (dec_le (when + max_age) t.event.at) [
        | yes h ↦ sooner (keeps_up_soon t past legal.1 goes.1 when (older t past when old h) h)
        | no h ↦ here turn (t ∷ past) when
            (all_before config.addresses (when + max_age) t past legal.1 (omega (arith, h))) old late
            goes.0.server_keeps_up
      ]
    where
      sooner : Found when t past → Found when turn (t ∷ past)
      sooner (inl k) = inl (inr k)
      sooner (inr k) = inr (inr k)

  pub keeps_up_in_time : (turns : List Turn) → AllLegal config.addresses turns → Always (GoesSmoothly config) turns
      → KeepsUpInTime config turns
  keeps_up_in_time [] legal goes = tt
  keeps_up_in_time (turn ∷ past) legal goes = (
    λ when old late. keeps_up_soon turn past legal goes when old late,
    keeps_up_in_time past legal.1 goes.1,
  )
