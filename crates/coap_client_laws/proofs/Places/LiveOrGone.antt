-- A live observation stays there, unless it is reported for the last time or forgotten.
use Rattle.std.proofs.Common.{◌≡◌, ◌≤◌, ◌⊎◌, inl, inr, ℕ, ◌+◌, max, Bool, true, false, cond, not, ◌&&◌, Option, Some}
use Rattle.std.proofs.Common.{None, List, ◌∷◌, [], map, refl, ap, Result, Ok, Err, arith}
use Rattle.std.specs.Prelude.{◌==◌}
use Rattle.coap_block.specs.Sizes.{Sizes}
use Rattle.coap_block.specs.declared.fetch_verdict.Verdict.TheVariants as verdict
use Rattle.coap_exchange.specs.declared.asker.AskRefusal.{AskRefusal}
use Rattle.coap_exchange.specs.declared.asker.Event.{Event}
use Rattle.coap_observe.specs.Newer.{arrived}
use Rattle.coap_client.specs.Trace.{is_value, Report, Ended, Cancelled, NoIds, Reported, Call, Calls, Observes, Cancels}
use Rattle.coap_client.specs.Trace.{Forgets, Feeds, Ticks, NextOut, NextReport, Asked}
use Rattle.coap_client.specs.Own.{Transfer, Operation, Calling, Fetching, Cancelling, Observation, Own}
use Rattle.coap_client.specs.Observations.{observation_of}
use Rattle.coap_client.specs.Responses.{sequence_in}
use Rattle.coap_client.specs.Reports.{lapse}
use Rattle.coap_client.specs.Effects.{Asks, Effect, of, ends, is_upload, has_sent}
use Rattle.coap_client.specs.Fetching.{rest as rest_left}
use Rattle.coap_client.specs.Observing.{begun, first_rest}
use Rattle.coap_client.specs.Events.{failed, closed}
use Rattle.coap_client.specs.Deeds.{at}
use Rattle.coap_client.specs.Steps.{reports}
use Rattle.coap_client.specs.Law.{own_of}
use Rattle.coap_client.specs.Places.{hit, in_observations, final_of, forgotten_by}
use Rattle.coap_client.specs.Turns.Moves as mv
use Rattle.coap_client.specs.Turns.Moves.{Move, left_by}
use Rattle.coap_client_laws.proofs.Queueing.Closing.{Closing, quiet, goes_out, is_refused}
use Rattle.coap_client.proofs.Facts.Places.PlaceLemmas.{in_map, in_observations_append, number_if, without}
use Rattle.coap_client.proofs.Facts.Places.PlaceLemmas.{in_without_other}
use Rattle.coap_client.proofs.Facts.Places.PlaceEvents.{lapse_last}
use Rattle.coap_client.proofs.Facts.Places.PlaceEffects.{final_hit}
use Rattle.coap_client.proofs.Facts.Turning.Moves.{releases_none}
use Rattle.coap_client_laws.proofs.Turning.Turns.{Turned, fed_turned, ticked_turned}

-- without one number each other is there
count_without : (n k : ℕ) (os : List Observation) → 1 ≤ in_observations n os
    → 1 ≤ in_observations n (without k os) + hit k n
count_without n k os h = by (k == n) refl
  where
    by : (b : Bool) → (k == n) ≡ b → 1 ≤ in_observations n (without k os) + hit k n
    by true e = let one : hit k n ≡ 1 = ap (λ b. cond b 1 0) e in omega (arith, one)
    by false e = let same = in_without_other n k e os in omega (arith, same, h)

count_changed : (n k : ℕ) (f : Observation → Observation) (os : List Observation)
    → ((o : Observation) → (f o).number ≡ o.number)
    → in_observations n (map (λ (o : Observation). cond (o.number == k) (f o) o) os) ≡ in_observations n os
count_changed n k f os same = in_map n (λ (o : Observation). cond (o.number == k) (f o) o)
    (λ o. number_if (o.number == k) o (f o) (same o)) os

count_held : (n : ℕ) (s : Own) (c : Bool) (report : Option Reported)
    → in_observations n (ends report (cond c (record s { hold = Some s.sent }) s)).own.observations
    ≡ in_observations n s.observations
count_held n s true report = refl
count_held n s false report = refl

-- what is live stays so, or is reported for the last time

abbrev Stay : Own → Effect → Type 0
Stay s e = (n : ℕ) → 1 ≤ in_observations n s.observations → 1 ≤ in_observations n e.own.observations

abbrev EndOrStay : Own → Effect → Type 0
EndOrStay s e = (n : ℕ) → 1 ≤ in_observations n s.observations
    → 1 ≤ in_observations n e.own.observations + final_of n e.report

module _ (s : Own) where
  failed_ends : (u : Transfer → Bool) (report : Report) → is_value report ≡ false → (running : Option Operation)
      → EndOrStay s (failed u report s running)
  failed_ends u report last (Some (Calling k r t)) n h = let a =
      count_held n s (u t && is_upload t) (of k report) in omega (arith, a, h)
  failed_ends u report last (Some (Fetching k)) n h = let a =
      count_changed n k (λ o. record o { rest = None }) s.observations (λ o. refl) in omega (arith, a, h)
  failed_ends u report last (Some (Cancelling k)) n h = let a = count_without n k s.observations h in let b =
      final_hit n k report last in omega (arith, a, b)
  failed_ends u report last _ n h = omega (arith, h)

  failed_asks : (u : Transfer → Bool) (report : Report) (running : Option Operation) (op : Operation)
      → (failed u report s running).deed ≡ Asks op → ⊥
  failed_asks u report (Some (Cancelling k)) op h = releases_none (observation_of k s.observations) op h
  failed_asks u report _ op h = cc h

  moves_end : (now : ℕ) (told : Option Event) (mo : Move s now told)
      → Stay s (left_by s now told mo) ⊎ (((op : Operation) → (left_by s now told mo).deed ≡ Asks op → ⊥)
      × EndOrStay s (left_by s now told mo))
  moves_end now told (mv.is_done k r tr final rep a hears_it runs ends_so) =
      inl (λ n h. (let e = count_held n s (not final && is_upload tr) (of k rep) in omega (arith, e, h)))
  moves_end now told (mv.registers k path a hears_it runs note) =
      inl (λ n h. (let e = in_observations_append n s.observations (begun k path s.sizes now a ∷ []) in omega
      (arith, e, h)))
  moves_end now told (mv.fetches_on k m a num size hears_it runs rest code asks) =
      inl (λ n h. (let e = count_changed n k (λ o. record o
      { rest = rest_left m.sequence m.fetch a (verdict.Ask num size) }) s.observations (λ o. refl) in omega
      (arith, e, h)))
  moves_end now told (mv.fetched k m a hears_it runs rest code done) =
      inl (λ n h. (let e = count_changed n k (λ o. record o { rest = None }) s.observations (λ o. refl) in omega
      (arith, e, h)))
  moves_end now told (mv.gives_up k a hears_it runs) =
      inl (λ n h. (let e = count_changed n k (λ o. record o { rest = None }) s.observations (λ o. refl) in omega
      (arith, e, h)))
  moves_end now told (mv.cancels k a hears_it runs) =
      inr (
        releases_none (observation_of k s.observations),
        λ n h. (let e = count_without n k s.observations h in let b =
            final_hit n k Cancelled refl in omega (arith, e, b)),
      )
  moves_end now told (mv.fails e un) = inr (
    failed_asks (λ t. true) (lapse e) s.running,
    failed_ends (λ t. true) (lapse e) (lapse_last e) s.running,
  )
  moves_end now told (mv.is_ended o a notes found note) =
      inr (
        releases_none (observation_of o.number s.observations),
        λ n h. (let e = count_without n o.number s.observations h in let b =
            final_hit n o.number (Ended a.code) refl in omega (arith, e, b)),
      )
  moves_end now told (mv.renews o a notes found note newer) =
      inl (λ n h. (let e = count_changed n o.number
      (λ p. record p { watch = arrived p.watch (sequence_in a) now true; rest = first_rest s.sizes a }) s.observations
      (λ p. refl) in omega (arith, e, h)))
  moves_end now told (mv.passes_by o a notes found note newer) =
      inl (λ n h. (let e = count_changed n o.number
      (λ p. record p { watch = arrived p.watch (sequence_in a) now false }) s.observations (λ p. refl) in omega
      (arith, e, h)))
  moves_end now told _ = inl (λ n h. h)

closed_ends : (s : Own) (now : ℕ) (e : Effect) (token : Result (List ℕ) AskRefusal)
    → Stay s e ⊎ (((op : Operation) → e.deed ≡ Asks op → ⊥) × EndOrStay s e) → Closing now e token
    → EndOrStay s (closed now e e.deed token)
closed_ends s now e token (inl stay) (quiet q none own_same report_same) n h =
    let a = stay n h in let b : in_observations n (closed now e e.deed token).own.observations
    ≡ in_observations n e.own.observations = ap (λ (o : Own). in_observations n o.observations) own_same in omega
    (arith, a, b)
closed_ends s now e token (inl stay) (goes_out op key asks given sends_it own_same report_same) n h =
    let a = stay n h in let b : in_observations n (closed now e e.deed token).own.observations
    ≡ in_observations n e.own.observations = ap (λ (o : Own). in_observations n o.observations) own_same in omega
    (arith, a, b)
closed_ends s now e token (inl stay) (is_refused op why asks given none all) n h =
    let b = failed_ends e.own has_sent NoIds refl (Some op) n (stay n h) in
    let x = ap (λ (c : Effect). in_observations n c.own.observations) all in
    let y = ap (λ (c : Effect). final_of n c.report) all in
    omega (arith, b, x, y)
closed_ends s now e token (inr k) (quiet q none own_same report_same) n h =
    let a = k.1 n h in
    let b : in_observations n (closed now e e.deed token).own.observations
    ≡ in_observations n e.own.observations = ap (λ (o : Own). in_observations n o.observations) own_same in
    let c = ap (final_of n) report_same in
    omega (arith, a, b, c)
closed_ends s now e token (inr k) (goes_out op key asks given sends_it own_same report_same) n h = absurd (k.0 op asks)
closed_ends s now e token (inr k) (is_refused op why asks given none all) n h = absurd (k.0 op asks)

module _ (sizes : Sizes) where
  -- in one call, where it isn't forgotten
  abbrev pub StaysLive : List Call → Call → Type 0
  StaysLive t c = (n : ℕ) → 1 ≤ in_observations n (own_of sizes t).observations
      → 1 ≤ in_observations n (own_of sizes (c ∷ t)).observations +
      (final_of n (reports (own_of sizes t) c) + forgotten_by n c)

  live_turned : (t : List Call) (c : Call) → Turned sizes t c → StaysLive t c
  live_turned t c k n h =
      let m : ℕ = max (own_of sizes t).clock k.now in
      let s : Own = at k.now (own_of sizes t) in
      let e : Effect = left_by s m k.told k.move in
      let a = closed_ends s m e k.token (moves_end s m k.told k.move) k.closes n h in
      let b : in_observations n (own_of sizes (c ∷ t)).observations
      ≡ in_observations n (closed m e e.deed k.token).own.observations =
      ap (λ (o : Own). in_observations n o.observations) k.own_is in
      let d = ap (final_of n) k.reports_is in
      omega (arith, a, b, d)

  pub stays_live : (t : List Call) (c : Call) → StaysLive t c
  stays_live t (Calls now r (Ok k)) n h = omega (arith, h)
  stays_live t (Observes now path (Ok k)) n h = omega (arith, h)
  stays_live t (Cancels now k None) n h = omega (arith, h)
  stays_live t (Forgets k was true) n h = let a = count_without n k (own_of sizes t).observations h in omega (arith, a)
  stays_live t (Feeds now from bytes w up settled event sent token was) n h =
      live_turned t (Feeds now from bytes w up settled event sent token was)
      (fed_turned sizes t now from bytes w up settled event sent token was) n h
  stays_live t (Ticks now w below turn sent token was answer) n h =
      live_turned t (Ticks now w below turn sent token was answer)
      (ticked_turned sizes t now w below turn sent token was answer) n h
  stays_live t _ n h = omega (arith, h)
