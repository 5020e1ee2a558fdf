-- The live observations of a client are in the order of their numbers.
use Rattle.std.proofs.Common.{◌≡◌, ◌≤◌, ◌<◌, ℕ, ◌+◌, max, Bool, true, false, cond, not, ◌&&◌, Option, Some, None, List}
use Rattle.std.proofs.Common.{[], ◌∷◌, ◌++◌, map, refl, ap, sym, subst, ◌∙◌, Result, Ok, Err, arith}
use Rattle.std.specs.Prelude.{◌==◌, filter}
use Rattle.coap_types.specs.declared.endpoint.Endpoint.{Endpoint}
use Rattle.coap_layer.specs.declared.setup.Setup.{Setup}
use Rattle.coap_block.specs.Sizes.{Sizes}
use Rattle.coap_block.specs.declared.fetch_verdict.Verdict.TheVariants as verdict
use Rattle.coap_exchange.specs.declared.asker.AskRefusal.{AskRefusal}
use Rattle.coap_exchange.specs.declared.asker.Event.{Event}
use Rattle.coap_observe.specs.Newer.{arrived}
use Rattle.coap_client.specs.Trace.{Report, NoIds, Call, Calls, Observes, Cancels, Forgets, Feeds, Ticks, NextOut}
use Rattle.coap_client.specs.Trace.{NextReport, Asked}
use Rattle.coap_client.specs.Own.{Transfer, Operation, Calling, Registering, Fetching, Cancelling, Observation, Own}
use Rattle.coap_client.specs.Observing.{begun, first_rest}
use Rattle.coap_client.specs.Responses.{sequence_in}
use Rattle.coap_client.specs.Fetching.{rest as rest_left}
use Rattle.coap_client.specs.Reports.{lapse}
use Rattle.coap_client.specs.Effects.{Effect, ends, of, is_upload, has_sent}
use Rattle.coap_client.specs.Events.{failed, closed}
use Rattle.coap_client.specs.Deeds.{at}
use Rattle.coap_client.specs.Law.{ClientLaw, own_of}
use Rattle.coap_client_laws.specs.Follows.Order.{turn_of}
use Rattle.coap_client.specs.Places.{hit, in_running, in_observations}
use Rattle.coap_client.specs.Turns.Moves as mv
use Rattle.coap_client.specs.Turns.Moves.{Move, left_by}
use Rattle.coap_client_laws.proofs.Queueing.Closing.{Closing, quiet, goes_out, is_refused}
use Rattle.coap_client_laws.proofs.Observing.Notified.{most}
use Rattle.coap_client.proofs.Facts.Places.PlaceLemmas.{hit_self}
use Rattle.coap_client_laws.proofs.Queueing.InTurn.{turns}
use Rattle.coap_client_laws.proofs.Sending.Tokens.{Registered, live}
use Rattle.coap_client_laws.proofs.Sending.LiveTokens.{AllLive}
use Rattle.coap_client.proofs.Facts.Turning.Leading.{client_back}
use Rattle.coap_client_laws.proofs.Turning.Turns.{Turned, fed_turned, ticked_turned}

-- each number is below those behind it

abbrev pub AreAbove : ℕ → List Observation → Type 0
AreAbove n [] = Unit {0}
AreAbove n (o ∷ os) = (n < o.number) × AreAbove n os

abbrev pub Ascends : List Observation → Type 0
Ascends [] = Unit {0}
Ascends (o ∷ os) = AreAbove o.number os × Ascends os

-- .. and below that one
abbrev AreBelow : ℕ → List Observation → Type 0
AreBelow n [] = Unit {0}
AreBelow n (o ∷ os) = (o.number < n) × AreBelow n os

module _ (k : ℕ) (f : Observation → Observation) (same : (o : Observation) → (f o).number ≡ o.number) where
  abbrev changed : List Observation → List Observation
  changed os = map (λ (o : Observation). cond (o.number == k) (f o) o) os

  number_is : (b : Bool) (o : Observation) → (cond b (f o) o).number ≡ o.number
  number_is true o = same o
  number_is false o = refl

  above_changed : (n : ℕ) (os : List Observation) → AreAbove n os → AreAbove n (changed os)
  above_changed n [] h = tt
  above_changed n (o ∷ os) h =
      let e = number_is (o.number == k) o in
      let a = h.0 in
      (omega (arith, e, a), above_changed n os h.1)

  pub ascends_changed : (os : List Observation) → Ascends os → Ascends (changed os)
  ascends_changed [] h = tt
  ascends_changed (o ∷ os) h = (
    subst (λ n. AreAbove n (changed os)) (sym (number_is (o.number == k) o)) (above_changed o.number os h.0),
    ascends_changed os h.1,
  )

module _ (p : Observation → Bool) where
  above_filter : (n : ℕ) (os : List Observation) → AreAbove n os → AreAbove n (filter p os)
  above_filter n [] h = tt
  above_filter n (o ∷ os) h = by (p o) (above_filter n os h.1)
    where
      by : (b : Bool) → AreAbove n (filter p os) → AreAbove n (cond b (o ∷ filter p os) (filter p os))
      by true ih = (h.0, ih)
      by false ih = ih

  pub ascends_filter : (os : List Observation) → Ascends os → Ascends (filter p os)
  ascends_filter [] h = tt
  ascends_filter (o ∷ os) h = by (p o) (ascends_filter os h.1)
    where
      by : (b : Bool) → Ascends (filter p os) → Ascends (cond b (o ∷ filter p os) (filter p os))
      by true ih = (above_filter o.number os h.0, ih)
      by false ih = ih

above_more : (n : ℕ) (os : List Observation) (o : Observation) → AreAbove n os → n < o.number
    → AreAbove n (os ++ o ∷ [])
above_more n [] o h k = (k, tt)
above_more n (x ∷ os) o h k = (h.0, above_more n os o h.1 k)

ascends_more : (os : List Observation) (o : Observation) → Ascends os → AreBelow o.number os → Ascends (os ++ o ∷ [])
ascends_more [] o h k = (tt, tt)
ascends_more (x ∷ os) o h k = (above_more x.number os o h.0 k.0, ascends_more os o h.1 k.1)

ascends_held : (s : Own) (c : Bool) (report : Option _) → Ascends s.observations
    → Ascends (ends report (cond c (record s { hold = Some s.sent }) s)).own.observations
ascends_held s true report h = h
ascends_held s false report h = h

ascends_failed : (s : Own) (u : Transfer → Bool) (report : Report) (running : Option Operation)
    → Ascends s.observations → Ascends (failed u report s running).own.observations
ascends_failed s u report (Some (Calling k r t)) h = ascends_held s (u t && is_upload t) (of k report) h
ascends_failed s u report (Some (Fetching k)) h =
    ascends_changed k (λ o. record o { rest = None }) (λ o. refl) s.observations h
ascends_failed s u report (Some (Cancelling k)) h = ascends_filter (λ o. not (o.number == k)) s.observations h
ascends_failed s u report _ h = h

module _ (s : Own) (now : ℕ) (told : Option Event) (h : Ascends s.observations)
    (new : (k : ℕ) (path : List (List ℕ)) → s.running ≡ Some (Registering k path) → AreBelow k s.observations) where
  ascends_moves : (mo : Move s now told) → Ascends (left_by s now told mo).own.observations
  ascends_moves (mv.is_done k r tr final rep a hears runs ends_so) = ascends_held s (not final && is_upload tr)
      (of k rep) h
  ascends_moves (mv.registers k path a hears runs note) =
      ascends_more s.observations (begun k path s.sizes now a) h (new k path runs)
  ascends_moves (mv.fetches_on k n a num size hears runs rest code asks) =
      ascends_changed k (λ o. record o { rest = rest_left n.sequence n.fetch a (verdict.Ask num size) })
      (λ o. refl) s.observations h
  ascends_moves (mv.fetched k n a hears runs rest code done) =
      ascends_changed k (λ o. record o { rest = None }) (λ o. refl) s.observations h
  ascends_moves (mv.gives_up k a hears runs) = ascends_changed k (λ o. record o { rest = None }) (λ o. refl)
      s.observations h
  ascends_moves (mv.cancels k a hears runs) = ascends_filter (λ o. not (o.number == k)) s.observations h
  ascends_moves (mv.fails e un) = ascends_failed s (λ t. true) (lapse e) s.running h
  ascends_moves (mv.is_ended o a notes found note) = ascends_filter (λ x. not (x.number == o.number)) s.observations h
  ascends_moves (mv.renews o a notes found note newer) =
      ascends_changed o.number (λ p. record p {
        watch = arrived p.watch (sequence_in a) now true;
        rest = first_rest s.sizes a;
      }) (λ p. refl) s.observations h
  ascends_moves (mv.passes_by o a notes found note newer) =
      ascends_changed o.number (λ p. record p { watch = arrived p.watch (sequence_in a) now false })
      (λ p. refl) s.observations h
  ascends_moves _ = h

  ascends_closed : (e : Effect) (token : Result (List ℕ) AskRefusal) → Ascends e.own.observations → Closing now e token
      → Ascends (closed now e e.deed token).own.observations
  ascends_closed e token z (quiet q none own_same report_same) =
      subst (λ (o : Own). Ascends o.observations) (sym own_same) z
  ascends_closed e token z (goes_out op key asks given sends_it own_same report_same) =
      subst (λ (o : Own). Ascends o.observations) (sym own_same) z
  ascends_closed e token z (is_refused op why asks given none all) =
      subst (λ (c : Effect). Ascends c.own.observations) (sym all) (ascends_failed e.own has_sent NoIds (Some op) z)

module _ (sizes : Sizes) (server : Endpoint) (setup : Setup) where
  -- those that are live were registered before

  apart : (k n : ℕ) (o : Observation) (os : List Observation) → o.number ≡ n
      → in_observations k (o ∷ os) ≡ 0 → n ≡ k → ⊥
  apart k n o os is none same =
      let here : hit o.number k ≡ hit k k = ap (λ i. hit i k) (is ∙ same) in
      let one = hit_self k in
      omega (arith, here, one, none)

  below_low : (t : List Call) (low k : ℕ)
      → ((n : ℕ) (path : List (List ℕ)) (token : List ℕ) → Registered sizes t n path token → n + 1 ≤ low)
      → low ≡ k + 1 → (os : List Observation) → AllLive (Registered sizes t) os → in_observations k os ≡ 0
      → AreBelow k os
  below_low t low k lower is [] h none = tt
  below_low t low k lower is (o ∷ os) h none =
      let a = lower o.number o.path o.token h.0 in
      let differ : o.number ≡ k → ⊥ = apart k o.number o os refl none in
      let rest : in_observations k os ≡ 0 = omega (arith, none) in
      (omega (arith, a, is, differ), below_low t low k lower is os h.1 rest)

  new_above : (t : List Call) → ClientLaw server sizes setup t → (k : ℕ) (path : List (List ℕ))
      → (own_of sizes t).running ≡ Some (Registering k path) → AreBelow k (own_of sizes t).observations
  new_above t law k path runs =
      let z = turns sizes t law.rows in
      let at_most = most server sizes setup t law k in
      let here : in_running k (own_of sizes t).running ≡ hit k k = ap (in_running k) runs in
      let one = hit_self k in
      let none : in_observations k (own_of sizes t).observations ≡ 0 = omega (arith, at_most, here, one) in
      below_low t z.low k (λ n p token g. z.sent g.sending n g.sent (ap turn_of g.operation))
      (z.running (Registering k path) k runs refl) (own_of sizes t).observations (live sizes server setup t law) none

  ascends_turned : (t : List Call) (c : Call) → ClientLaw server sizes setup t → (k : Turned sizes t c)
      → Ascends (own_of sizes t).observations → Ascends (own_of sizes (c ∷ t)).observations
  ascends_turned t c law k h =
      let m : ℕ = max (own_of sizes t).clock k.now in
      let s : Own = at k.now (own_of sizes t) in
      let e : Effect = left_by s m k.told k.move in
      let new = new_above t law in
      subst (λ (o : Own). Ascends o.observations) (sym k.own_is)
      (ascends_closed s m k.told h new e k.token (ascends_moves s m k.told h new k.move) k.closes)

  pub ascends : (t : List Call) → ClientLaw server sizes setup t → Ascends (own_of sizes t).observations
  ascends [] law = tt
  ascends (c ∷ t) law = let past = client_back server sizes setup (c ∷ []) t law in by c past (ascends t past)
    where
      by : (c : Call) → ClientLaw server sizes setup t → Ascends (own_of sizes t).observations
          → Ascends (own_of sizes (c ∷ t)).observations
      by (Calls now r (Ok n)) past h = h
      by (Calls now r (Err why)) past h = h
      by (Observes now path (Ok n)) past h = h
      by (Observes now path (Err why)) past h = h
      by (Cancels now k None) past h = h
      by (Cancels now k (Some why)) past h = h
      by (Forgets k kept true) past h = ascends_filter (λ o. not (o.number == k)) (own_of sizes t).observations h
      by (Forgets k kept false) past h = h
      by (NextOut answer) past h = h
      by (NextReport answer) past h = h
      by (Asked answer) past h = h
      by (Feeds now from bytes w up settled event sent token kept) past h =
          ascends_turned t (Feeds now from bytes w up settled event sent token kept) past
          (fed_turned sizes t now from bytes w up settled event sent token kept) h
      by (Ticks now w below turn sent token kept answer) past h =
          ascends_turned t (Ticks now w below turn sent token kept answer) past
          (ticked_turned sizes t now w below turn sent token kept answer) h
