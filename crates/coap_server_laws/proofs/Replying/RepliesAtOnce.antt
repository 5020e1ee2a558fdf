-- Each reply of a server's message layer is given at once, also where a deferral was refused before.
use Rattle.std.proofs.Common.{◌≡◌, ℕ, zero, suc, max, Bool, true, false, Option, Some, None, List, [], ◌∷◌, ◌++◌}
use Rattle.std.proofs.Common.{refl, ap, sym, subst}
use Rattle.coap_types.specs.declared.endpoint.Endpoint.{Endpoint}
use Rattle.coap_types.specs.declared.message.Kind.{Kind}
use Rattle.coap_types.specs.declared.message.Kind.TheVariants.{Con, Ack}
use Rattle.coap_codec.specs.Message.{Message}
use Rattle.coap_codec.specs.Spelling.{message_bytes}
use Rattle.coap_layer.specs.Trace as T
use Rattle.coap_layer.specs.Trace.{with_head}
use Rattle.coap_layer.specs.Machine.State as L
use Rattle.coap_layer.specs.Machine.Steps as G
use Rattle.coap_layer.specs.Machine.Steps.{Steps, entries, left_after}
use Rattle.coap_types.specs.Past.{Always}
use Rattle.coap_layer.specs.Channel.{RepliesSo}
use Rattle.coap_layer.specs.declared.setup.Setup.{Setup}
use Rattle.coap_observe.specs.Observers.{Observer}
use Rattle.coap_resource.specs.Limits.{Limits}
use Rattle.coap_exchange.specs.declared.answerer.Asked.{Asked}
use Rattle.coap_exchange.specs.declared.answerer.Due.{Due}
use Rattle.coap_exchange.specs.declared.answerer.Due.TheVariants as due
use Rattle.coap_exchange.specs.AnswererTrace as E
use Rattle.coap_exchange.specs.AnswererSteps as P
use Rattle.coap_exchange.specs.AnswererLaw as W
use Rattle.coap_exchange.specs.AskerRequests.{asked}
use Rattle.coap_server.specs.Trace.{Own, Handling, Silent, Replies, Serves, Waits, Notifies, Call}
use Rattle.coap_server.specs.Trace.{Sets}
use Rattle.coap_server.specs.Trace.{Removes, Delays, Plains, Feeds, Refuses, Ticks, NextOut, Gets, TellsApplied}
use Rattle.coap_server.specs.Serving.{response_to}
use Rattle.coap_server.specs.Responses.{bare}
use Rattle.coap_server.specs.Deferring.{delay_for, deferral_by}
use Rattle.coap_server.specs.Notifying.{marked, notification, readies}
use Rattle.coap_server.specs.Handling.{incoming, ticking, heard}
use Rattle.coap_server.specs.Asks.{answering, responding}
use Rattle.coap_server.specs.Law.{ServerLaw, own_of, lower_of, layer_of}
use Rattle.coap_server_laws.specs.Follows.Rejects.{RejectsSo}
use Rattle.coap_exchange.proofs.Facts.AskerReplies.{NoReplies}
use Rattle.coap_server_laws.proofs.Replying.Replies.{Came, came_by, hands_up, carrying, small, at_once_then}
use Rattle.coap_server_laws.proofs.Replying.ResponsesRejected.{So, over, replies_so}
use Rattle.coap_server_laws.proofs.Replying.RepliesSo as N
use Rattle.coap_server_laws.proofs.Replying.RepliesSo.{Under, Left, one_back, asking_none}
use Rattle.coap_server.proofs.Facts.Serving.Brought.{server_back}
use Rattle.coap_server.specs.Asks.{notifies_by}
use Rattle.coap_server.specs.Plain.{by_plain}
use Rattle.coap_server.specs.Trace.{Forgets}

-- a piggybacked response behind a refused deferral
module _ (begin : L.State) (from : Endpoint) (now : ℕ) (bytes : List ℕ) (up : T.Answer) (rest : List G.Asked)
    (mid new : L.State) (before : Steps begin rest mid) (step : L.Step mid now (T.Receive from bytes) up new)
    (so : So begin rest) where
  abbrev first : List G.Asked
  first = asked now T.Pass T.Nothing ∷ asked now (T.Receive from bytes) up ∷ rest

  taken : So begin first
  taken = over begin (asked now T.Pass T.Nothing ∷ asked now (T.Receive from bytes) up ∷ []) rest (refl, (refl, tt)) so

  behind_refusal : (s : E.Own) (a : Asked) (m : Message) (r : E.Response) (below : T.Answer) → Came from up a m
      → P.IsResponse a r → (kind : Kind) → a.kind ≡ kind
      → So begin (asked s.clock (P.answering s kind a r) below ∷ first)
  behind_refusal s a m r below c is Con k =
      let h = hands_up from up a m c in
      let f = carrying from up a m r c is (small begin from now bytes up rest mid new before step m h) k in
      let from_is : a.from ≡ from = ap (λ (x : Asked). x.from) c.asked_is in
      let b : List ℕ = message_bytes (with_head Ack a.id.0 (P.content_of a r)) in (
        subst (λ e. RejectsSo (entries begin first) (L.made (left_after begin first) 0 (T.Reply e a.id.0 b)))
            (sym from_is) (at_once_then begin from now bytes up rest mid new before step m a.id.0 b h f),
        taken,
      )
  behind_refusal s a m r below c is _ k = ((λ to id b h. absurd (cc h)), taken)

module _ (setup : Setup) where
  abbrev begin : L.State
  begin = L.start setup

  -- calls that reply nothing
  abbrev Quiet : List E.Call → Type 0
  Quiet [] = Unit {0}
  Quiet (c ∷ calls) = ((s : E.Own) → NoReplies (P.lower s c)) × Quiet calls

  quiet_over : (xs calls : List E.Call) → Quiet xs → Under setup calls → Under setup (xs ++ calls)
  quiet_over [] calls q so = so
  quiet_over (x ∷ xs) calls q so = over begin (P.lower (W.own_of (xs ++ calls)) x) (W.lower_of (xs ++ calls))
      (q.0 (W.own_of (xs ++ calls))) (quiet_over xs calls q.1 so)

  quiet_append : (xs ys : List E.Call) → Quiet xs → Quiet ys → Quiet (xs ++ ys)
  quiet_append [] ys q r = r
  quiet_append (x ∷ xs) ys q r = (q.0, quiet_append xs ys q.1 r)

  readies_quiet : (at n : ℕ) (os : List Observer) → Quiet (readies at n os)
  readies_quiet at n [] = tt
  readies_quiet at zero (o ∷ os) = ((λ s. (refl, tt)), tt)
  readies_quiet at (suc n) (o ∷ os) = quiet_append (readies at n os) (E.Ready at o.to false ∷ [])
      (readies_quiet at n os) ((λ s. (refl, tt)), tt)

  notice_quiet : (plain : Bool) (at : ℕ) (o : Observer) (r : E.Response) (w id : ℕ) (s : E.Own)
      → NoReplies (P.lower s (notifies_by plain at o r w id))
  notice_quiet true at o r w id s = (refl, tt)
  notice_quiet false at o r w id s = (refl, tt)

  responding_quiet : (s : Own) (d : Due) (passed : ℕ) (h : Handling) (w id : ℕ) → Quiet (responding s d passed h w id)
  responding_quiet s due.Idle passed (Notifies o reply) w id = (
    notice_quiet (by_plain s o) s.clock o (notification s.store o reply) w id,
    readies_quiet s.clock passed (marked s.observers),
  )
  responding_quiet s (due.Ready a) passed (Serves q reply left) w id = ((λ e. (refl, tt)), tt)
  responding_quiet s due.Idle passed _ w id = readies_quiet s.clock passed (marked s.observers)
  responding_quiet s _ passed _ w id = tt

  -- a request that arrives
  module _ (calls : List E.Call) (so : Under setup calls) (at : ℕ) (from : Endpoint) (bytes : List ℕ) (up : T.Answer)
      (p : Asked × Message) where
    abbrev came : E.Call
    came = E.Incoming at from bytes up (Some p)

    answered_then : (r : E.Response) (below : T.Answer) (delay : ℕ)
        → W.AnswererLaw (E.Answers p.0 r below ∷ E.Defers at p.0 delay false ∷ came ∷ calls) → Left setup (came ∷ calls)
        → Under setup (E.Answers p.0 r below ∷ E.Defers at p.0 delay false ∷ came ∷ calls)
    answered_then r below delay law left =
        let a = N.arrived setup calls so at from bytes up (Some p) left in
        let c : Came from up p.0 p.1 = came_by from up p.0 p.1 law.1.1.0 in
        let s : E.Own = W.own_of (came ∷ calls) in
        let t : E.Own = P.after s (E.Defers at p.0 delay false) in
        let no : false ≡ P.may_defer s.deferred = law.1.0.2 in
        let pass : G.Asked = asked at T.Pass T.Nothing in
        subst (λ l. So begin (asked t.clock (P.answering t p.0.kind p.0 r) below ∷
        ((P.deferring (P.may_defer s.deferred) p.0 ++ pass ∷ []) ++ (l ++ W.lower_of calls))))
        (sym (N.plain setup calls so at from bytes up p.0 p.1 c))
        (subst (λ b. So begin (asked t.clock (P.answering t p.0.kind p.0 r) below ∷
        ((P.deferring b p.0 ++ pass ∷ []) ++ (asked at (T.Receive from bytes) up ∷ W.lower_of calls)))) no
        (behind_refusal begin from at bytes up (W.lower_of calls) a.mid a.new a.before a.step so t p.0 p.1 r below c
        law.0.1 p.0.kind refl))

    served : (o : Option ℕ) (place : Bool) (r : E.Response) (below : T.Answer)
        → W.AnswererLaw (((E.Answers p.0 r below ∷ deferral_by o place at p.0) ++ came ∷ []) ++ calls)
        → Left setup (((E.Answers p.0 r below ∷ deferral_by o place at p.0) ++ came ∷ []) ++ calls)
        → Under setup (((E.Answers p.0 r below ∷ deferral_by o place at p.0) ++ came ∷ []) ++ calls)
    served None place r below law left = N.answered setup calls so at from bytes up p r below law
        (one_back setup (E.Answers p.0 r below) (came ∷ calls) left)
    served (Some delay) true r below law left = let e = law.0.0 in absurd (cc e)
    served (Some delay) false r below law left =
        answered_then r below delay law (one_back setup (E.Defers at p.0 delay false) (came ∷ calls)
        (one_back setup (E.Answers p.0 r below) (E.Defers at p.0 delay false ∷ came ∷ calls) left))

    waited : (o : Option ℕ) (place : Bool) → W.AnswererLaw ((deferral_by o place at p.0 ++ came ∷ []) ++ calls)
        → Left setup ((deferral_by o place at p.0 ++ came ∷ []) ++ calls)
        → Under setup ((deferral_by o place at p.0 ++ came ∷ []) ++ calls)
    waited None place law left = N.incoming setup calls so at from bytes up (Some p) left
    waited (Some delay) place law left = N.deferred setup calls so at from bytes up p delay place law
        (one_back setup (E.Defers at p.0 delay place) (came ∷ calls) left)

  module _ (calls : List E.Call) (so : Under setup calls) (w : Own) (from : Endpoint) (bytes : List ℕ)
      (up : T.Answer) where
    fed : (came : Option (Asked × Message)) (h : Handling) (below : T.Answer)
        → W.AnswererLaw ((answering w came h below ++ E.Incoming w.clock from bytes up came ∷ []) ++ calls)
        → Left setup ((answering w came h below ++ E.Incoming w.clock from bytes up came ∷ []) ++ calls)
        → Under setup ((answering w came h below ++ E.Incoming w.clock from bytes up came ∷ []) ++ calls)
    fed None h below law left = N.incoming setup calls so w.clock from bytes up None left
    fed (Some p) Silent below law left = N.incoming setup calls so w.clock from bytes up (Some p) left
    fed (Some p) (Notifies o reply) below law left = N.incoming setup calls so w.clock from bytes up (Some p) left
    fed (Some p) (Replies r) below law left = N.answered setup calls so w.clock from bytes up p r below law
        (one_back setup (E.Answers p.0 r below) (E.Incoming w.clock from bytes up (Some p) ∷ calls) left)
    fed (Some p) (Serves q reply store) below law left =
        served calls so w.clock from bytes up p (delay_for p.0.kind q.path w.delays) (P.may_defer w.exchanges.deferred)
        (response_to w.store w.observers p.0 q reply) below law left
    fed (Some p) (Waits q delay) below law left =
        waited calls so w.clock from bytes up p (delay_for p.0.kind q.path w.delays)
        (P.may_defer w.exchanges.deferred) law left

module _ (limits : Limits) (szx : ℕ) (setup : Setup) where
  pub rejects_responses : (t : List Call) → ServerLaw limits szx setup t
      → Always RejectsSo (layer_of limits szx setup t)
  rejects_responses [] law = tt
  rejects_responses (c ∷ t) law = here c law (rejects_responses t (server_back limits szx setup c t law))
    where
      here : (c : Call) → ServerLaw limits szx setup (c ∷ t) → Under setup (lower_of limits szx t)
          → Under setup (lower_of limits szx (c ∷ t))
      here (Sets now path format body answer left) law so = so
      here (Removes now path answer left) law so = so
      here (Delays path ms answer) law so = so
      here (Plains path answer) law so = so
      here (Gets path answer) law so = so
      here (TellsApplied answer) law so = so
      here (Forgets peer) law so = so
      here (NextOut answer) law so = quiet_over setup (E.Take answer ∷ []) (lower_of limits szx t)
          ((λ s. (refl, tt)), tt) so
      here (Feeds now from bytes w up came h below) law so =
          let s : Own = own_of limits szx t in
          fed setup (lower_of limits szx t) so (heard s now (incoming s now from bytes up came)) from bytes up came h
          below law.exchanges.rows (law.exchanges.left, law.exchanges.layer)
      here (Refuses now from bytes w code up p None below) law so =
          N.incoming setup (lower_of limits szx t) so (max (own_of limits szx t).clock now) from bytes up (Some p)
          (law.exchanges.left, law.exchanges.layer)
      here (Refuses now from bytes w code up p (Some n) below) law so =
          let first : E.Call = incoming (own_of limits szx t) now from bytes up (Some p) in
          N.answered setup (lower_of limits szx t) so (max (own_of limits szx t).clock now) from bytes up p (bare n)
          below law.exchanges.rows (one_back setup (E.Answers p.0 (bare n) below) (first ∷ lower_of limits szx t)
          (law.exchanges.left, law.exchanges.layer))
      here (Ticks now w below room d passed h id answer) law so =
          let s : Own = own_of limits szx t in
          let first : E.Call = ticking s now below room d in
          let asks : List E.Call = responding (heard s now first) d passed h w id in
          let last : Quiet setup (first ∷ []) = ((λ e. asking_none _ _ room below), tt) in
          quiet_over setup (asks ++ first ∷ []) (lower_of limits szx t)
          (quiet_append setup asks (first ∷ []) (responding_quiet setup (heard s now first) d passed h w id) last) so

  pub replies_at_once : (t : List Call) → ServerLaw limits szx setup t → Always RepliesSo (layer_of limits szx setup t)
  replies_at_once t law = replies_so (layer_of limits szx setup t) (rejects_responses t law)
