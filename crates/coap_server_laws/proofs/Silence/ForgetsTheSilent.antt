-- A server forgets a peer from which nothing comes.
use Rattle.std.proofs.Common.{ℕ, zero, suc, Bool, true, false, Option, Some, None, List, [], ◌∷◌, ◌++◌}
use Rattle.std.proofs.Common.{sym, subst}
use Rattle.coap_types.specs.declared.endpoint.Endpoint.{Endpoint}
use Rattle.coap_types.specs.declared.message.Kind.{Kind}
use Rattle.coap_types.specs.declared.message.Kind.TheVariants.{Con}
use Rattle.coap_codec.specs.Message.{Message}
use Rattle.coap_layer.specs.Machine.State as S
use Rattle.coap_layer.specs.Machine.Steps as G
use Rattle.coap_layer.specs.Machine.Steps.{Steps, left_after}
use Rattle.coap_layer.specs.Trace as L
use Rattle.coap_layer.specs.declared.setup.Setup.{Setup}
use Rattle.coap_layer.proofs.Facts.Calls.{steps_left}
use Rattle.coap_layer.proofs.Facts.StepsOfLayer.{steps_split}
use Rattle.coap_block.specs.Whole.{Each}
use Rattle.coap_observe.specs.Observers.{Observer}
use Rattle.coap_resource.specs.Serves.{Question}
use Rattle.coap_resource.specs.Limits.{Limits}
use Rattle.coap_exchange.specs.declared.answerer.Asked.{Asked}
use Rattle.coap_exchange.specs.declared.answerer.Due.{Due}
use Rattle.coap_exchange.specs.declared.answerer.Due.TheVariants as due
use Rattle.coap_exchange.specs.declared.separate.Deferred.{Deferred}
use Rattle.coap_exchange.specs.Adds.{asked_by_server}
use Rattle.coap_exchange.specs.AnswererTrace as E
use Rattle.coap_exchange.specs.AnswererSteps as P
use Rattle.coap_exchange.specs.AnswererLaw as W
use Rattle.coap_exchange.specs.AskerRequests.{asked}
use Rattle.coap_exchange.specs.AskerArrivals.{id_in, replying}
use Rattle.coap_server.specs.Trace.{Own, Handling, Replies, Serves, Waits, Notifies, Call}
use Rattle.coap_server.specs.Trace.{Feeds, Refuses, Ticks, NextOut}
use Rattle.coap_server.specs.Asks.{lower, answering, responding}
use Rattle.coap_server.specs.Refusing.{refusing}
use Rattle.coap_server.specs.Deferring.{deferral, deferral_by, delay_for}
use Rattle.coap_server.specs.Handling.{heard, incoming, ticking}
use Rattle.coap_server.specs.Notifying.{marked, notification, readies}
use Rattle.coap_server.specs.Plain.{by_plain}
use Rattle.coap_server.specs.Law.{ServerLaw, lower_of, own_of}
use Rattle.coap_server.proofs.Facts.Calls.EachOf.{each_join}
use Rattle.coap_server.proofs.Facts.Calls.NotifiesBy.{in_either}
use Rattle.coap_server.proofs.Facts.Serving.Brought.{server_back, servers_back}
use Rattle.coap_server_laws.specs.Follows.Adds.{all_asked, call_asks}
use Rattle.coap_server_laws.specs.Follows.Silent.{ForgetsTheSilent, HearsElse}
use Rattle.coap_server_laws.proofs.Telling.LayerCalls.{asked_next}
use Rattle.coap_server_laws.proofs.Silence.LayerApart.{Else}
use Rattle.coap_server_laws.proofs.Silence.LayerForgets.{AreBehind, AreLive, AreOld, HeardElse, none_left, old_then}
use Rattle.coap_server_laws.proofs.Silence.LayerForgets.{steps_behind, steps_live, steps_old}
use Rattle.coap_server.specs.Trace.{Forgets}

module _ (peer : Endpoint) (since : ℕ) where
  -- nothing comes from the peer
  abbrev BringsElse : E.Call → Type 0
  BringsElse (E.Incoming now from bytes up answer) = Else peer from
  BringsElse _ = Unit {0}

  abbrev Asks : G.Asked → Type 0
  Asks b = HeardElse peer since b.call

  replies : (from : Endpoint) (id : ℕ) (o : Option (List ℕ)) → Each Asks (replying from id o)
  replies from id None = tt
  replies from id (Some bytes) = (tt, tt)

  answers : (s : E.Own) (kind : Kind) (a : Asked) (r : E.Response) → HeardElse peer since (P.answering s kind a r)
  answers s Con a r = tt
  answers s _ a r = tt

  defers : (b : Bool) (a : Asked) → Each Asks (P.deferring b a)
  defers true a = (tt, tt)
  defers false a = tt

  asks_room : (now : ℕ) (o : Option Deferred) (room : Bool) → Each Asks (P.asking_room now o room)
  asks_room now None room = tt
  asks_room now (Some d) room = (tt, tt)

  lower_heard : (s : E.Own) (c : E.Call) → BringsElse c → Each Asks (P.lower s c)
  lower_heard s (E.Incoming now from bytes up answer) e =
      each_join Asks (replying from (id_in up) (P.reject_by up)) (asked now (L.Receive from bytes) up ∷ [])
      (replies from (id_in up) (P.reject_by up)) (e, tt)
  lower_heard s (E.Answers a r below) e = (answers s a.kind a r, tt)
  lower_heard s (E.Defers now a delay answer) e =
      each_join Asks (P.deferring (P.may_defer s.deferred) a) (asked now L.Pass L.Nothing ∷ [])
      (defers (P.may_defer s.deferred) a) (tt, tt)
  lower_heard s (E.Ticks now below room answer) e =
      each_join Asks (P.asking_room now (P.ready_if below (P.ready_at s now)) room) (asked now L.Ticks below ∷ [])
      (asks_room now (P.ready_if below (P.ready_at s now)) room) (tt, tt)
  lower_heard s (E.Responds now a r word id) e = (tt, tt)
  lower_heard s (E.Ready now to answer) e = (tt, tt)
  lower_heard s (E.Notifies now to token r word id) e = (tt, tt)
  lower_heard s (E.NotifiesPlain now to token r id) e = (tt, tt)
  lower_heard s (E.Take answer) e = (tt, tt)
  lower_heard s (E.Forgets other) e = tt

  asks_heard : (past later : List E.Call) → Each BringsElse later → Each Asks (asked_by_server past later)
  asks_heard past [] h = tt
  asks_heard past (c ∷ later) h =
      each_join Asks (P.lower (W.own_of (later ++ past)) c) (asked_by_server past later)
      (lower_heard (W.own_of (later ++ past)) c h.0) (asks_heard past later h.1)

  -- what a call of the server asks of the exchanges

  deferred_heard : (o : Option ℕ) (place : Bool) (at : ℕ) (a : Asked) → Each BringsElse (deferral_by o place at a)
  deferred_heard None place at a = tt
  deferred_heard (Some delay) place at a = (tt, tt)

  deferral_heard : (s : Own) (a : Asked) (q : Question) → Each BringsElse (deferral s a q)
  deferral_heard s a q =
      deferred_heard (delay_for a.kind q.path s.delays) (P.may_defer s.exchanges.deferred) s.clock a

  answering_heard : (s : Own) (came : Option (Asked × Message)) (h : Handling) (below : L.Answer)
      → Each BringsElse (answering s came h below)
  answering_heard s (Some p) (Replies response) below = (tt, tt)
  answering_heard s (Some p) (Serves q reply left) below = (tt, deferral_heard s p.0 q)
  answering_heard s (Some p) (Waits q delay) below = deferral_heard s p.0 q
  answering_heard s _ _ below = tt

  refusing_heard : (a : Asked) (response : Option ℕ) (below : L.Answer)
      → Each BringsElse (refusing a response below)
  refusing_heard a None below = tt
  refusing_heard a (Some code) below = (tt, tt)

  readies_heard : (at n : ℕ) (os : List Observer) → Each BringsElse (readies at n os)
  readies_heard at n [] = tt
  readies_heard at zero (o ∷ os) = (tt, tt)
  readies_heard at (suc n) (o ∷ os) = each_join BringsElse (readies at n os) (E.Ready at o.to false ∷ [])
      (readies_heard at n os) (tt, tt)

  responding_heard : (s : Own) (d : Due) (passed : ℕ) (h : Handling) (word id : ℕ)
      → Each BringsElse (responding s d passed h word id)
  responding_heard s (due.Ready a) passed (Serves q reply left) word id = (tt, tt)
  responding_heard s due.Idle passed (Notifies o reply) word id = (
    in_either BringsElse (by_plain s o) s.clock o (notification s.store o reply) word id tt tt,
    readies_heard s.clock passed (marked s.observers),
  )
  responding_heard s due.Idle passed _ word id = readies_heard s.clock passed (marked s.observers)
  responding_heard s _ passed _ word id = tt

  call_heard : (s : Own) (c : Call) → HearsElse peer c → Each BringsElse (lower s c)
  call_heard s (Feeds now from bytes w up came h below) e =
      let first : E.Call = incoming s now from bytes up came in
      each_join BringsElse (answering (heard s now first) came h below) (first ∷ [])
      (answering_heard (heard s now first) came h below) (e, tt)
  call_heard s (Refuses now from bytes w code up p response below) e =
      each_join BringsElse (refusing p.0 response below) (incoming s now from bytes up (Some p) ∷ [])
      (refusing_heard p.0 response below) (e, tt)
  call_heard s (Ticks now w below room d passed h id answer) e =
      let first : E.Call = ticking s now below room d in
      each_join BringsElse (responding (heard s now first) d passed h w id) (first ∷ [])
      (responding_heard (heard s now first) d passed h w id) (tt, tt)
  call_heard s (NextOut answer) e = (tt, tt)
  call_heard s (Forgets other) e = (tt, tt)
  call_heard s _ e = tt

  module _ (limits : Limits) (szx : ℕ) (setup : Setup) where
    abbrev layer : List Call → S.State
    layer t = left_after (S.start setup) (all_asked limits szx t)

    call_old : (t : List Call) (c : Call) → ServerLaw limits szx setup (c ∷ t) → HearsElse peer c
        → AreOld peer since (layer t) → AreOld peer since (layer (c ∷ t))
    call_old t c law e old =
        let begin : S.State = S.start setup in
        let left : S.State = law.exchanges.left in
        let asks : List G.Asked = call_asks limits szx t c in
        let before : List G.Asked = all_asked limits szx t in
        let steps = subst (λ (z : List G.Asked). Steps begin z left) (asked_next limits szx setup t c)
        law.exchanges.layer in
        let parts = steps_split begin left asks before steps in
        let mid = subst (AreOld peer since) (sym (steps_left begin before parts.0 parts.1)) old in
        let on = steps_old peer since parts.0 left asks parts.2
        (asks_heard (lower_of limits szx t) (lower (own_of limits szx t) c) (call_heard (own_of limits szx t) c e))
        mid in
        subst (AreOld peer since) (steps_left begin (all_asked limits szx (c ∷ t)) left law.exchanges.layer) on

    pub all_old : (calls t : List Call) → ServerLaw limits szx setup (calls ++ t) → Each (HearsElse peer) calls
        → AreOld peer since (layer t) → AreOld peer since (layer (calls ++ t))
    all_old [] t law e old = old
    all_old (c ∷ calls) t law e old =
        call_old (calls ++ t) c law e.0
        (all_old calls t (server_back limits szx setup c (calls ++ t) law) e.1 old)

pub forgets_the_silent : (limits : Limits) (szx : ℕ) (setup : Setup) (t : List Call)
    → ForgetsTheSilent limits szx setup t
forgets_the_silent limits szx setup t peer calls e law late =
    let begin : S.State = S.start setup in
    let past = servers_back limits szx setup calls t law in
    let last : S.State = left_after begin (all_asked limits szx t) in
    let same = steps_left begin (all_asked limits szx t) past.exchanges.left past.exchanges.layer in
    let behind : AreBehind last = subst AreBehind same
    (steps_behind begin past.exchanges.left (all_asked limits szx t) past.exchanges.layer tt) in
    let old = all_old peer last.clock limits szx setup calls t law e (old_then peer last.clock last.arrived behind) in
    let now : S.State = left_after begin (all_asked limits szx (calls ++ t)) in
    let live : AreLive peer last.clock now = subst (AreLive peer last.clock)
    (steps_left begin (all_asked limits szx (calls ++ t)) law.exchanges.left law.exchanges.layer)
    (steps_live peer last.clock begin law.exchanges.left (all_asked limits szx (calls ++ t)) law.exchanges.layer tt) in
    none_left peer last.clock now.clock now.arrived late old live
