-- No moment of a server's message layer is past the server's own.
use Rattle.std.proofs.Common.{◌≤◌, ℕ, zero, suc, max, Bool, true, false, Option, Some, None, List, [], ◌∷◌, ◌++◌}
use Rattle.std.proofs.Common.{ap, sym, subst, ◌∙◌, arith}
use Rattle.coap_types.specs.declared.endpoint.Endpoint.{Endpoint}
use Rattle.coap_codec.specs.Message.{Message}
use Rattle.coap_layer.specs.Machine.State as S
use Rattle.coap_layer.specs.Machine.Steps as G
use Rattle.coap_layer.specs.Machine.Steps.{left_after}
use Rattle.coap_layer.specs.Trace as L
use Rattle.coap_layer.specs.declared.setup.Setup.{Setup}
use Rattle.coap_block.specs.Whole.{Each}
use Rattle.coap_observe.specs.Observers.{Observer}
use Rattle.coap_resource.specs.Limits.{Limits}
use Rattle.coap_resource.specs.Serves.{Question}
use Rattle.coap_exchange.specs.declared.answerer.Asked.{Asked}
use Rattle.coap_exchange.specs.declared.answerer.Due.{Due}
use Rattle.coap_exchange.specs.declared.answerer.Due.TheVariants as due
use Rattle.coap_exchange.specs.declared.separate.Deferred.{Deferred}
use Rattle.coap_exchange.specs.AnswererTrace as E
use Rattle.coap_exchange.specs.AnswererSteps as P
use Rattle.coap_exchange.specs.AnswererLaw as W
use Rattle.coap_exchange.specs.AskerRequests.{asked}
use Rattle.coap_exchange.specs.AskerArrivals.{id_in, replying}
use Rattle.coap_exchange.specs.Adds.{asked_by_server}
use Rattle.coap_exchange.proofs.Facts.Adds.{left_append}
use Rattle.coap_server.specs.Trace.{Own, Handling, Replies, Serves, Waits, Notifies, Call}
use Rattle.coap_server.specs.Trace.{Feeds, Refuses, Ticks, NextOut}
use Rattle.coap_server.specs.Asks.{answering, lower, responding}
use Rattle.coap_server.specs.Deferring.{deferral, deferral_by, delay_for}
use Rattle.coap_server.specs.Handling.{incoming, ticking, heard}
use Rattle.coap_server.specs.Law.{ServerLaw, own_of, lower_of}
use Rattle.coap_server.specs.Notifying.{marked, notification, readies}
use Rattle.coap_server.specs.Plain.{by_plain}
use Rattle.coap_server_laws.specs.Follows.Adds.{all_asked, call_asks}
use Rattle.coap_server.proofs.Facts.Calls.EachOf.{each_join}
use Rattle.coap_server.proofs.Facts.Calls.NotifiesBy.{in_either}
use Rattle.coap_server.proofs.Facts.Exact.Leads.{exchanges_kept}
use Rattle.coap_server.proofs.Facts.Observing.StoreSteps.{clock_rises}
use Rattle.coap_server.proofs.Facts.Serving.Brought.{server_back}
use Rattle.coap_server.proofs.Facts.Serving.Waiting.{mirrors}
use Rattle.coap_server_laws.proofs.Telling.LayerCalls.{asked_next}
use Rattle.coap_server.specs.Trace.{Forgets}

-- up to this moment
module _ (t : ℕ) where
  abbrev pub Early : G.Asked → Type 0
  Early a = a.now ≤ t

  not_after : (s : S.State) (now : ℕ) (call : L.Call) → s.clock ≤ t → now ≤ t → S.moment s now call ≤ t
  not_after s now (L.Reply to id bytes) h k = h
  not_after s now (L.Settle to id) h k = h
  not_after s now L.Take h k = h
  not_after s now _ h k = omega (arith, h, k)

  pub till : (old : S.State) (asks : List G.Asked) → old.clock ≤ t → Each Early asks → (left_after old asks).clock ≤ t
  till old [] h e = h
  till old (a ∷ asks) h e = not_after (left_after old asks) a.now a.call (till old asks h e.1) e.0

  -- what is asked of the exchanges
  abbrev pub Asks : E.Call → Type 0
  Asks (E.Incoming now from bytes up answer) = now ≤ t
  Asks (E.Answers a r below) = Unit {0}
  Asks (E.Defers now a delay answer) = now ≤ t
  Asks (E.Ticks now below room answer) = now ≤ t
  Asks (E.Responds now a r word id) = now ≤ t
  Asks (E.Ready now to answer) = now ≤ t
  Asks (E.Notifies now to token r word id) = now ≤ t
  Asks (E.NotifiesPlain now to token r id) = now ≤ t
  Asks (E.Take answer) = Unit {0}
  Asks (E.Forgets peer) = Unit {0}

  own_by : (s : E.Own) (c : E.Call) → s.clock ≤ t → Asks c → (P.after s c).clock ≤ t
  own_by s (E.Answers a r below) h k = h
  own_by s (E.Take answer) h k = h
  own_by s (E.Forgets peer) h k = h
  own_by s _ h k = omega (arith, h, k)

  owns_by : (past later : List E.Call) → (W.own_of past).clock ≤ t → Each Asks later
      → (W.own_of (later ++ past)).clock ≤ t
  owns_by past [] h a = h
  owns_by past (c ∷ later) h a = own_by (W.own_of (later ++ past)) c (owns_by past later h a.1) a.0

  replying_early : (to : Endpoint) (id : ℕ) (o : Option (List ℕ)) → Each Early (replying to id o)
  replying_early to id None = tt
  replying_early to id (Some bytes) = (omega arith, tt)

  deferring_early : (b : Bool) (a : Asked) → Each Early (P.deferring b a)
  deferring_early true a = (omega arith, tt)
  deferring_early false a = tt

  room_early : (now : ℕ) (o : Option Deferred) (room : Bool) → now ≤ t → Each Early (P.asking_room now o room)
  room_early now None room h = tt
  room_early now (Some d) room h = (h, tt)

  lower_early : (s : E.Own) (c : E.Call) → s.clock ≤ t → Asks c → Each Early (P.lower s c)
  lower_early s (E.Incoming now from bytes up answer) h k =
      each_join Early (replying from (id_in up) (P.reject_by up)) (asked now (L.Receive from bytes) up ∷ [])
      (replying_early from (id_in up) (P.reject_by up)) (k, tt)
  lower_early s (E.Answers a r below) h k = (h, tt)
  lower_early s (E.Defers now a delay answer) h k =
      each_join Early (P.deferring (P.may_defer s.deferred) a) (asked now L.Pass L.Nothing ∷ [])
      (deferring_early (P.may_defer s.deferred) a) (k, tt)
  lower_early s (E.Ticks now below room answer) h k =
      each_join Early (P.asking_room now (P.ready_if below (P.ready_at s now)) room) (asked now L.Ticks below ∷ [])
      (room_early now (P.ready_if below (P.ready_at s now)) room k) (k, tt)
  lower_early s (E.Take answer) h k = (omega arith, tt)
  lower_early s (E.Forgets peer) h k = tt
  lower_early s _ h k = (k, tt)

  pub wishes : (past later : List E.Call) → (W.own_of past).clock ≤ t → Each Asks later
      → Each Early (asked_by_server past later)
  wishes past [] h a = tt
  wishes past (c ∷ later) h a =
      each_join Early (P.lower (W.own_of (later ++ past)) c) (asked_by_server past later)
      (lower_early (W.own_of (later ++ past)) c (owns_by past later h a.1) a.0) (wishes past later h a.1)

  -- what a call of the server asks of the exchanges

  deferring_asks : (o : Option ℕ) (place : Bool) (at : ℕ) (a : Asked) → at ≤ t → Each Asks (deferral_by o place at a)
  deferring_asks None place at a k = tt
  deferring_asks (Some delay) place at a k = (k, tt)

  deferral_asks : (s : Own) (a : Asked) (q : Question) → s.clock ≤ t → Each Asks (deferral s a q)
  deferral_asks s a q k = deferring_asks (delay_for a.kind q.path s.delays) (P.may_defer s.exchanges.deferred) s.clock a
      k

  answering_asks : (s : Own) (came : Option (Asked × Message)) (h : Handling) (below : L.Answer) → s.clock ≤ t
      → Each Asks (answering s came h below)
  answering_asks s (Some p) (Replies response) below k = (tt, tt)
  answering_asks s (Some p) (Serves q reply left) below k = (tt, deferral_asks s p.0 q k)
  answering_asks s (Some p) (Waits q delay) below k = deferral_asks s p.0 q k
  answering_asks s _ _ below k = tt

  pub readies_asks : (at passed : ℕ) (os : List Observer) → at ≤ t → Each Asks (readies at passed os)
  readies_asks at passed [] k = tt
  readies_asks at zero (o ∷ os) k = (k, tt)
  readies_asks at (suc passed) (o ∷ os) k = each_join Asks (readies at passed os) (E.Ready at o.to false ∷ [])
      (readies_asks at passed os k) (k, tt)

  responding_asks : (s : Own) (d : Due) (passed : ℕ) (h : Handling) (word id : ℕ) → s.clock ≤ t
      → Each Asks (responding s d passed h word id)
  responding_asks s (due.Ready a) passed (Serves q reply left) word id k = (k, tt)
  responding_asks s due.Idle passed (Notifies o reply) word id k = (
    in_either Asks (by_plain s o) s.clock o (notification s.store o reply) word id k k,
    readies_asks s.clock passed (marked s.observers) k,
  )
  responding_asks s due.Idle passed _ word id k = readies_asks s.clock passed (marked s.observers) k
  responding_asks s _ passed _ word id k = tt

module _ (limits : Limits) (szx : ℕ) (setup : Setup) where
  abbrev own : List Call → Own
  own t = own_of limits szx t

  call_asks_early : (t : List Call) (c : Call) → Each (Asks (own (c ∷ t)).clock) (lower (own t) c)
  call_asks_early t (NextOut answer) = (tt, tt)
  call_asks_early t (Forgets peer) = (tt, tt)
  call_asks_early t (Feeds now from bytes w up came h below) =
      let at : ℕ = max (own t).clock now in
      let first : E.Call = incoming (own t) now from bytes up came in
      each_join (Asks at) (answering (heard (own t) now first) came h below) (first ∷ [])
      (answering_asks at (heard (own t) now first) came h below (omega arith)) (omega arith, tt)
  call_asks_early t (Refuses now from bytes w code up p None below) = (omega arith, tt)
  call_asks_early t (Refuses now from bytes w code up p (Some n) below) = (tt, (omega arith, tt))
  call_asks_early t (Ticks now w below room d passed h id answer) =
      let at : ℕ = max (own t).clock now in
      let first : E.Call = ticking (own t) now below room d in
      each_join (Asks at) (responding (heard (own t) now first) d passed h w id) (first ∷ [])
      (responding_asks at (heard (own t) now first) d passed h w id (omega arith)) (omega arith, tt)
  call_asks_early t _ = tt

  pub exchanges_till : (t : List Call) → ServerLaw limits szx setup t → (W.own_of (lower_of limits szx t)).clock
      ≤ (own t).clock
  exchanges_till t law =
      let m = (mirrors limits szx setup t law).clock in
      let e = ap (λ (z : E.Own). z.clock) (exchanges_kept limits szx t) in omega (arith, m, e)

  pub layer_till : (t : List Call) → ServerLaw limits szx setup t
      → (left_after (S.start setup) (all_asked limits szx t)).clock ≤ (own t).clock
  layer_till [] law = omega arith
  layer_till (c ∷ t) law =
      let past = server_back limits szx setup c t law in
      let rises = clock_rises limits szx t c in
      let before = layer_till t past in
      let between = exchanges_till t past in
      let begin : S.State = S.start setup in
      let at : ℕ = (own (c ∷ t)).clock in
      subst (λ (s : S.State). s.clock ≤ at)
      (sym (ap (left_after begin) (asked_next limits szx setup t c)
      ∙ left_append begin (call_asks limits szx t c) (all_asked limits szx t)))
      (till at (left_after begin (all_asked limits szx t)) (call_asks limits szx t c) (omega (arith, before, rises))
      (wishes at (lower_of limits szx t) (lower (own t) c) (omega (arith, between, rises)) (call_asks_early t c)))

  -- .. at each of the calls that one makes
  pub calls_till : (t : List Call) (c : Call) (asks : List G.Asked) → ServerLaw limits szx setup t
      → Each (Early (own (c ∷ t)).clock) asks
      → (left_after (left_after (S.start setup) (all_asked limits szx t)) asks).clock ≤ (own (c ∷ t)).clock
  calls_till t c asks law early =
      let rises = clock_rises limits szx t c in
      let before = layer_till t law in
      till (own (c ∷ t)).clock (left_after (S.start setup) (all_asked limits szx t)) asks
      (omega (arith, before, rises)) early
