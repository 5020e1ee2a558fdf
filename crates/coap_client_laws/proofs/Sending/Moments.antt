-- The entries that a call of a client adds to its message layer are no later than the call, and neither an arrival nor
-- the begin of a CON is earlier.
use Rattle.std.proofs.Common.{◌≡◌, ◌≤◌, inl, inr, ℕ, max, Bool, true, false, Option, Some, None, List, [], ◌∷◌, ◌++◌}
use Rattle.std.proofs.Common.{refl, ap, sym, subst, ◌∙◌, arith, Result, Ok, Err}
use Rattle.coap_types.specs.Past.{Ever}
use Rattle.coap_types.specs.declared.endpoint.Endpoint.{Endpoint}
use Rattle.coap_layer.specs.Machine.State.{State, start, made, moment as moment_at}
use Rattle.coap_layer.specs.Machine.Steps.{Asked, left_after, entries}
use Rattle.coap_layer.specs.Trace as L
use Rattle.coap_layer.specs.Words.{Open, begun}
use Rattle.coap_layer.proofs.Facts.Sendings.{begins_of}
use Rattle.coap_layer.specs.declared.setup.Setup.{Setup}
use Rattle.coap_block.specs.Sizes.{Sizes}
use Rattle.coap_exchange.specs.declared.asker.AskRefusal.{AskRefusal}
use Rattle.coap_exchange.specs.declared.asker.Exchange.{Exchange}
use Rattle.coap_exchange.specs.declared.matching.Opening.{Opening}
use Rattle.coap_exchange.specs.declared.matching.Opening.TheVariants.{Running, Spent, Sends}
use Rattle.coap_exchange.specs.AskerTrace as E
use Rattle.coap_exchange.specs.AskerRequests as Q
use Rattle.coap_exchange.specs.AskerArrivals as R
use Rattle.coap_exchange.specs.AskerSteps as P
use Rattle.coap_exchange.specs.AskerLaw as W
use Rattle.coap_exchange.specs.Adds.{asked_by_client}
use Rattle.coap_client.specs.Trace.{Call, Calls, Observes, Cancels, Forgets, Feeds, Ticks, NextOut}
use Rattle.coap_client.specs.Trace.{NextReport, Asked as AskedFor}
use Rattle.coap_client.specs.Own.{Own, Observation}
use Rattle.coap_client.specs.Observations.{observation_of}
use Rattle.coap_client.specs.Observing.{releases}
use Rattle.coap_client.specs.Effects.{Deed, Rests, Asks, Keeps, Releases, Effect}
use Rattle.coap_client.specs.Deeds.{at, effect, close, deeds, done_for}
use Rattle.coap_client.specs.Steps.{lower, after}
use Rattle.coap_client.specs.Law.{own_of, lower_of}
use Rattle.coap_client_laws.specs.Follows.Adds.{call_asks, all_asked, call_adds}
use Rattle.coap_client_laws.specs.Follows.Holds.{moment}
use Rattle.coap_exchange.proofs.Facts.Adds.{left_append}
use Rattle.coap_client.proofs.Facts.Uploading.Holding.{happened_steady, passes_steady, steadied}
use Rattle.coap_client_laws.proofs.Sending.Begun.{adds_front}
use Rattle.coap_client_laws.proofs.Sending.ApartLists.{Every, every_join}

-- a call of the layer has the moment of its entry, or an earlier one
not_after : (s : State) (now : ℕ) (call : L.Call) (t : ℕ) → s.clock ≤ t → now ≤ t → moment_at s now call ≤ t
not_after s now (L.Receive from bytes) t h k = omega (arith, h, k)
not_after s now _ t h k = omega (arith, h, k)

-- an arrival, and what begins a CON, have the moment that they are handed, where the clock isn't past it

abbrev IsTimed : L.Call → Type 0
IsTimed (L.Receive from bytes) = Unit {0}
IsTimed (L.Confirm to content word) = Unit {0}
IsTimed L.Ticks = Unit {0}
IsTimed _ = ⊥

timed : (s : State) (now : ℕ) (call : L.Call) → IsTimed call → now ≤ moment_at s now call
timed s now (L.Receive from bytes) h = omega arith
timed s now (L.Confirm to content word) h = omega arith
timed s now L.Ticks h = omega arith
timed s now _ h = absurd h

module _ (m : ℕ) where
  -- no later than this moment, and an arrival and what begins a CON at it
  pub record AskedAt (a : Asked) : Type 0 where
    pub by : a.now ≤ m
    pub from : IsTimed a.call → m ≤ a.now

  abbrev pub Timed : E.Call → Type 0
  Timed (E.Ask now r word below answer) = now ≡ m
  Timed (E.Receive now from bytes up settled answer) = now ≡ m
  Timed (E.Ticks now below answer) = now ≡ m
  Timed _ = Unit {0}

  replies : (from : Endpoint) (id : ℕ) (o : Option (List ℕ)) → Every AskedAt (R.replying from id o)
  replies from id None = tt
  replies from id (Some bytes) = (
    record { by = omega arith; from = λ k. absurd k },
    tt,
  )

  settles : (b : Bool) (server : Endpoint) (o : Option Exchange) (settled : Bool)
      → Every AskedAt (R.settling b server o settled)
  settles true server (Some x) settled = (
    record { by = omega arith; from = λ k. absurd k },
    tt,
  )
  settles true server None settled = tt
  settles false server o settled = tt

  beneath_at : (now : ℕ) (o : Opening) (server : Endpoint) (content : L.Content) (word : ℕ) (sent : L.Answer) → now ≡ m
      → AskedAt (Q.asked now (Q.beneath o server content word) sent)
  beneath_at now Running server content word sent h = record { by = omega (arith, h); from = λ k. omega (arith, h) }
  beneath_at now _ server content word sent h = record { by = omega (arith, h); from = λ k. omega (arith, h) }

  lower_at : (s : E.Own) (c : E.Call) → Timed c → Every AskedAt (P.lower s c)
  lower_at s (E.Ask now r word below answer) h =
      (beneath_at now (Q.opening_of s r) s.server (Q.content_of (Q.request_token s r) r) word below h, tt)
  lower_at s (E.Receive now from bytes up settled answer) h =
      let v = R.verdict_on s from up in
      every_join AskedAt (R.acts s from up settled v) (Q.asked now (L.Receive from bytes) up ∷ [])
      (every_join AskedAt (R.settling (R.settles v) s.server s.running settled) _
      (settles (R.settles v) s.server s.running settled) (replies from (R.id_in up) (R.reply_by v (R.id_in up))))
      (record { by = omega (arith, h); from = λ k. omega (arith, h) }, tt)
  lower_at s (E.Ticks now below answer) h = (record { by = omega (arith, h); from = λ k. omega (arith, h) }, tt)
  lower_at s (E.Take answer) h = (record { by = omega arith; from = λ k. absurd k }, tt)
  lower_at s _ h = tt

  asked_at : (server : Endpoint) (setup : Setup) (past later : List E.Call) → Every Timed later
      → Every AskedAt (asked_by_client server setup past later)
  asked_at server setup past [] h = tt
  asked_at server setup past (c ∷ later) h =
      every_join AskedAt (P.lower (W.own_of server setup (later ++ past)) c) (asked_by_client server setup past later)
      (lower_at (W.own_of server setup (later ++ past)) c h.0) (asked_at server setup past later h.1)

  deeds_timed : (d : Deed) (s : Own) (word : ℕ) (sent : L.Answer) (token : Result (List ℕ) AskRefusal) (kept : Bool)
      → Every Timed (deeds d s m word sent token kept)
  deeds_timed Rests s word sent token kept = tt
  deeds_timed (Asks op) s word sent token kept = (refl, tt)
  deeds_timed _ s word sent token kept = (tt, tt)

  done_timed : (e : Effect) (word : ℕ) (sent : L.Answer) (token : Result (List ℕ) AskRefusal) (kept : Bool)
      (input : E.Call) → Timed input → Every Timed (done_for e m word sent token kept input)
  done_timed e word sent token kept input h =
      let c = close m e token in
      every_join Timed (deeds c.deed c.own m word sent token kept) _ (deeds_timed c.deed c.own word sent token kept)
      (every_join Timed (deeds e.deed e.own m word sent token kept) (input ∷ [])
      (deeds_timed e.deed e.own word sent token kept) (h, tt))

  release_timed : (o : Option Observation) (s : Own) (now word : ℕ) (sent : L.Answer)
      (token : Result (List ℕ) AskRefusal) (kept : Bool) → Every Timed (deeds (releases o) s now word sent token kept)
  release_timed None s now word sent token kept = tt
  release_timed (Some o) s now word sent token kept = (tt, tt)

  entries_by : (old : State) (calls : List Asked) → old.clock ≤ m → Every AskedAt calls
      → Every (λ (e : L.Entry). e.at ≤ m) (entries old calls) × ((left_after old calls).clock ≤ m)
  entries_by old [] h w = (tt, h)
  entries_by old (a ∷ earlier) h w =
      let k = entries_by old earlier h w.1 in
      let n = not_after (left_after old earlier) a.now a.call m k.1 (w.0).by in
      ((n, k.0), n)

  begun_from : (old : State) (calls : List Asked) (con : Open) → Every AskedAt calls
      → Ever (λ b. begun b ≡ Some con) (entries old calls) → m ≤ con.first
  begun_from old [] con w h = absurd h
  begun_from old (a ∷ earlier) con w (inr h) = begun_from old earlier con w.1 h
  begun_from old (a ∷ earlier) con w (inl h) =
      let s : State = left_after old earlier in
      let b = begins_of (made s a.now a.call) con h in
      let is = subst IsTimed (sym b.call_is) tt in
      let from = (w.0).from is in
      let at = timed s a.now a.call is in
      let first = b.first_is in
      omega (arith, from, at, first)

  arrived_from : (old : State) (calls : List Asked) → Every AskedAt calls
      → Every (λ (e : L.Entry). (from : Endpoint) (bytes : List ℕ) → e.call ≡ L.Receive from bytes → m ≤ e.at)
      (entries old calls)
  arrived_from old [] w = tt
  arrived_from old (a ∷ earlier) w = (
    λ source bytes call_is. (
        let is = subst IsTimed (sym call_is) tt in
        let from = (w.0).from is in
        let at = timed (left_after old earlier) a.now a.call is in
        omega (arith, from, at)),
    arrived_from old earlier w.1,
  )

  ticked_from : (old : State) (calls : List Asked) → Every AskedAt calls
      → Every (λ (e : L.Entry). e.call ≡ L.Ticks → m ≤ e.at) (entries old calls)
  ticked_from old [] w = tt
  ticked_from old (a ∷ earlier) w = (
    λ call_is. (
        let is = subst IsTimed (sym call_is) tt in
        let from = (w.0).from is in
        let at = timed (left_after old earlier) a.now a.call is in
        omega (arith, from, at)),
    ticked_from old earlier w.1,
  )

lower_timed : (s : Own) (c : Call) → Every (Timed (moment s c)) (lower s c)
lower_timed s (Forgets number kept true) = release_timed (s.clock)
    (observation_of number s.observations) s 0 0 L.Nothing (Ok []) kept
lower_timed s (Feeds now from bytes word up settled event sent token kept) =
    let c : Call = Feeds now from bytes word up settled event sent token kept in
    done_timed (max s.clock now) (effect s c) word sent token kept
    (E.Receive (max s.clock now) from bytes up settled event) refl
lower_timed s (Ticks now word below turn sent token kept answer) =
    let c : Call = Ticks now word below turn sent token kept answer in
    done_timed (max s.clock now) (effect s c) word sent token kept (E.Ticks (max s.clock now) below turn) refl
lower_timed s (NextOut answer) = (tt, tt)
lower_timed s _ = tt

pub moment_same : (s : Own) (c : Call) → (after s c).clock ≡ moment s c
moment_same s (Calls now r (Ok number)) = refl
moment_same s (Observes now path (Ok number)) = refl
moment_same s (Cancels now number None) = refl
moment_same s (Forgets number kept true) = refl
moment_same s (Feeds now from bytes word up settled event sent token kept) =
    let e = effect s (Feeds now from bytes word up settled event sent token kept) in
    (steadied (at now s) (max s.clock now) e token e.deed refl
    (happened_steady (at now s) (max s.clock now) event)).clock
moment_same s (Ticks now word below turn sent token kept answer) =
    let e = effect s (Ticks now word below turn sent token kept answer) in
    (steadied (at now s) (max s.clock now) e token e.deed refl (passes_steady (at now s) (max s.clock now) turn)).clock
moment_same s _ = refl

pub moment_from : (s : Own) (c : Call) → s.clock ≤ moment s c
moment_from s (Calls now r answer) = omega arith
moment_from s _ = omega arith

module _ (server : Endpoint) (sizes : Sizes) (setup : Setup) where
  asks_at : (past : List Call) (c : Call) → Every (AskedAt (moment (own_of sizes past) c))
      (call_asks server sizes setup past c)
  asks_at past c = asked_at (moment (own_of sizes past) c) server setup (lower_of sizes past)
      (lower (own_of sizes past) c)
      (lower_timed (own_of sizes past) c)

  -- the layer's clock is not past that of the client
  pub clock_by : (t : List Call) → (left_after (start setup) (all_asked server sizes setup t)).clock ≤
      (own_of sizes t).clock
  clock_by [] = omega arith
  clock_by (c ∷ t) =
      let m : ℕ = moment (own_of sizes t) c in
      let before = clock_by t in
      let from = moment_from (own_of sizes t) c in
      let k = entries_by m (left_after (start setup) (all_asked server sizes setup t))
      (call_asks server sizes setup t c)
      (omega (arith, before, from)) (asks_at t c) in
      let till = k.1 in
      let same = ap (λ (s : State). s.clock) (ap (left_after (start setup)) (adds_front server sizes setup t c)
      ∙ left_append (start setup) (call_asks server sizes setup t c) (all_asked server sizes setup t)) in
      let here = moment_same (own_of sizes t) c in
      omega (arith, till, same, here)

  pub adds_by : (t : List Call) (c : Call) → Every (λ (e : L.Entry). e.at ≤ moment (own_of sizes t) c)
      (call_adds server sizes setup t c)
  adds_by t c =
      let m : ℕ = moment (own_of sizes t) c in
      let before = clock_by t in
      let from = moment_from (own_of sizes t) c in
      (entries_by m (left_after (start setup) (all_asked server sizes setup t)) (call_asks server sizes setup t c)
      (omega (arith, before, from)) (asks_at t c)).0

  pub begins_from : (t : List Call) (c : Call) (con : Open)
      → Ever (λ b. begun b ≡ Some con) (call_adds server sizes setup t c) → moment (own_of sizes t) c ≤ con.first
  begins_from t c con h = begun_from (moment (own_of sizes t) c)
      (left_after (start setup) (all_asked server sizes setup t))
      (call_asks server sizes setup t c) con (asks_at t c) h

  pub arrives_from : (t : List Call) (c : Call)
      → Every (λ (e : L.Entry). (from : Endpoint) (bytes : List ℕ) → e.call ≡ L.Receive from bytes
      → moment (own_of sizes t) c ≤ e.at) (call_adds server sizes setup t c)
  arrives_from t c = arrived_from (moment (own_of sizes t) c)
      (left_after (start setup) (all_asked server sizes setup t)) (call_asks server sizes setup t c) (asks_at t c)

  pub ticks_from : (t : List Call) (c : Call)
      → Every (λ (e : L.Entry). e.call ≡ L.Ticks → moment (own_of sizes t) c ≤ e.at) (call_adds server sizes setup t c)
  ticks_from t c = ticked_from (moment (own_of sizes t) c)
      (left_after (start setup) (all_asked server sizes setup t)) (call_asks server sizes setup t c) (asks_at t c)
