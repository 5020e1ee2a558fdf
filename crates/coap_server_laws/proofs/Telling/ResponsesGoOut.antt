-- What a server answers and notifies its message layer is given in that very call.
use Rattle.std.proofs.Common.{◌≡◌, ◌≢◌, inl, inr, ℕ, Bool, true, false, Some, List, [], ◌∷◌, ◌++◌, refl, ap, sym}
use Rattle.std.proofs.Common.{subst, ◌∙◌}
use Rattle.coap_types.specs.Past.{Ever}
use Rattle.coap_types.proofs.Facts.Traces.{Ever_front, Ever_back}
use Rattle.coap_types.specs.declared.message.Kind.{Kind}
use Rattle.coap_types.specs.declared.message.Kind.TheVariants.{Con, Non, Ack, Rst}
use Rattle.coap_layer.specs.Machine.State as S
use Rattle.coap_layer.specs.Machine.Steps as G
use Rattle.coap_layer.specs.Machine.Steps.{Steps, entries, left_after}
use Rattle.coap_layer.specs.Trace as L
use Rattle.coap_layer.proofs.Facts.Calls.{steps_left}
use Rattle.coap_layer.specs.declared.setup.Setup.{Setup}
use Rattle.coap_observe.specs.Observers.{Observer}
use Rattle.coap_resource.specs.Limits.{Limits}
use Rattle.coap_exchange.specs.declared.answerer.Asked.{Asked}
use Rattle.coap_exchange.specs.declared.answerer.Due.TheVariants as due
use Rattle.coap_exchange.specs.AnswererSteps as P
use Rattle.coap_exchange.specs.AnswererTrace as E
use Rattle.coap_exchange.specs.AnswererLaw as W
use Rattle.coap_exchange.specs.Adds.{asked_by_server}
use Rattle.coap_server.specs.Trace.{Own, Notifies, Call}
use Rattle.coap_server.specs.Trace.{Ticks}
use Rattle.coap_server.specs.Asks.{lower, notifies_by}
use Rattle.coap_server.specs.Plain.{by_plain}
use Rattle.coap_server.specs.Deferring.{question_of}
use Rattle.coap_server.specs.Handling.{heard, ticking}
use Rattle.coap_server.specs.Notifying.{notification}
use Rattle.coap_server.specs.Law.{ServerLaw, own_of, lower_of}
use Rattle.coap_server_laws.specs.Follows.Adds.{call_asks, call_adds}
use Rattle.coap_server_laws.specs.Follows.GoesOut.{responds_with, GoesOut, in_ack, in_non, in_con, InCon, InNon}
use Rattle.coap_server_laws.specs.Follows.GoesOut.{AllGoOut, GoesOutHere, InEither}
use Rattle.coap_server.specs.Follows.Observes.{Notice, notice, plain_in}
use Rattle.coap_server.proofs.Facts.Observing.Outcomes.{never_notifies_ready}
use Rattle.coap_server.proofs.Facts.Serving.Brought.{server_back}
use Rattle.coap_server_laws.proofs.Telling.LayerCalls.{steps_here}
use Rattle.coap_server_laws.proofs.Telling.ResponsesMade.{pair_of, answer_sent, served_sent, made_here}

-- from what is asked of the layer, with the answer, to its entries
added_for : (K : L.Call → L.Answer → Type 0) (old new : S.State) (calls : List G.Asked) → Steps old calls new
    → Ever (λ (b : G.Asked). K b.call b.answer) calls → Ever (λ (e : L.Entry). K e.call e.answer) (entries old calls)
added_for K old new [] h e = e
added_for K old new (a ∷ earlier) h (inr e) = inr (added_for K old h.0 earlier h.1 e)
added_for K old new (a ∷ earlier) h (inl e) =
    let s : S.State = left_after old earlier in
    let right : a.answer ≡ S.answer_of s (S.moment s a.now a.call) a.call =
    subst (λ w. a.answer ≡ S.answer_of w (S.moment w a.now a.call) a.call)
    (steps_left old earlier h.0 h.1) h.2.right in
    inl (subst (K a.call) right e)

-- from a call of the exchanges to what it asks of the layer
module _ (K : L.Call → L.Answer → Type 0) (Q : E.Call → Type 0)
    (gives : (s : E.Own) (d : E.Call) → P.IsRight s d → Q d → Ever (λ (b : G.Asked). K b.call b.answer) (P.lower s d))
  where
    asked_of : (later past : List E.Call) → W.AnswererLaw (later ++ past) → Ever Q later
        → Ever (λ (b : G.Asked). K b.call b.answer) (asked_by_server past later)
    asked_of [] past law h = absurd h
    asked_of (d ∷ later) past law (inl q) = Ever_front (λ (b : G.Asked). K b.call b.answer)
        (P.lower (W.own_of (later ++ past)) d) (asked_by_server past later) (gives (W.own_of (later ++ past)) d law.0 q)
    asked_of (d ∷ later) past law (inr h) = Ever_back (λ (b : G.Asked). K b.call b.answer)
        (P.lower (W.own_of (later ++ past)) d) (asked_by_server past later) (asked_of later past law.1 h)

    module _ (limits : Limits) (szx : ℕ) (setup : Setup) where
      pub given_in : (past : List Call) (c : Call) → ServerLaw limits szx setup (c ∷ past)
          → Ever Q (lower (own_of limits szx past) c)
          → Ever (λ (e : L.Entry). K e.call e.answer) (call_adds limits szx setup past c)
      given_in past c law h =
          let k = steps_here limits szx setup past c law in
          subst (Ever (λ (e : L.Entry). K e.call e.answer)) (sym k.3)
          (added_for K k.0 k.1 (call_asks limits szx past c) k.2
          (asked_of (lower (own_of limits szx past) c) (lower_of limits szx past) law.exchanges.rows h))

-- a response

not_con : (k n : Kind) → k ≡ n → (n ≡ Con → ⊥) → k ≢ Con
not_con k n e never h = never (sym e ∙ h)

module _ (a : Asked) (r : E.Response) where
  answers_out : (s : E.Own) (below : L.Answer) (k : Kind) → a.kind ≡ k → P.IsSentAs k below
      → GoesOut a r (P.answering s k a r) below
  answers_out s below Con e sent = in_ack e refl
  answers_out s below Non e sent = in_non sent.0 (not_con a.kind Non e (λ h. cc h)) refl sent.1
  answers_out s below Ack e sent = in_non sent.0 (not_con a.kind Ack e (λ h. cc h)) refl sent.1
  answers_out s below Rst e sent = in_non sent.0 (not_con a.kind Rst e (λ h. cc h)) refl sent.1

  response_out : (s : E.Own) (d : E.Call) → P.IsRight s d → responds_with d ≡ Some (a, r)
      → Ever (λ (b : G.Asked). GoesOut a r b.call b.answer) (P.lower s d)
  response_out s (E.Answers x y below) right h =
      let k = pair_of x a y r h in
      let same : a ≡ x = sym k.0 in
      let content : r ≡ y = sym k.1 in
      inl (subst (λ z. GoesOut a r (P.answering s z.kind z y) below) same
      (subst (λ z. GoesOut a r (P.answering s a.kind a z) below) content
      (answers_out s below a.kind refl (subst (λ (z : Asked). P.IsSentAs z.kind below) (sym same) right.2))))
  response_out s (E.Responds now x y w id) right h =
      let k = pair_of x a y r h in
      inl (in_con w id (ap (λ (z : Asked). L.Confirm z.from (P.content_of z y) w) k.0
      ∙ ap (λ z. L.Confirm a.from (P.content_of a z) w) k.1) refl)
  response_out s _ right h = absurd (cc h)

-- a notification
abbrev IsNotifying : Bool → Observer → E.Response → E.Call → Type 0
IsNotifying plain o r d = (at w id : ℕ) × (d ≡ notifies_by plain at o r w id)

notice_out : (plain : Bool) (o : Observer) (r : E.Response) (s : E.Own) (d : E.Call) → P.IsRight s d
    → IsNotifying plain o r d
    → Ever (λ (b : G.Asked). InEither plain o.to (P.content_with o.token r) b.call b.answer) (P.lower s d)
notice_out true o r s d right k =
    subst (λ x. Ever (λ (b : G.Asked). InNon o.to (P.content_with o.token r) b.call b.answer) (P.lower s x)) (sym k.3)
    (inl (record { id = k.2; call_is = refl; answer_is = refl }))
notice_out false o r s d right k =
    subst (λ x. Ever (λ (b : G.Asked). InCon o.to (P.content_with o.token r) b.call b.answer) (P.lower s x)) (sym k.3)
    (inl (record { word = k.1; id = k.2; call_is = refl; answer_is = refl }))

module _ (limits : Limits) (szx : ℕ) (setup : Setup) where
  notifying : (t : List Call) (c : Call) → ServerLaw limits szx setup (c ∷ t) → (x : Notice) → notice c ≡ Some x
      → Ever (IsNotifying (plain_in (own_of limits szx t) c) x.observer
      (notification (own_of limits szx t).store x.observer x.reply)) (lower (own_of limits szx t) c)
  notifying t (Ticks now w below room due.Idle passed (Notifies o reply) id answer) law x e =
      let same : ◌≡◌ {A = Notice} (record { observer = o; reply = reply }) x = cc e in
      let s : Own = heard (own_of limits szx t) now (ticking (own_of limits szx t) now below room due.Idle) in
      subst (λ (y : Notice). Ever (IsNotifying (by_plain s o) y.observer
      (notification (own_of limits szx t).store y.observer y.reply))
      (lower (own_of limits szx t) (Ticks now w below room due.Idle passed (Notifies o reply) id answer))) same
      (inl (s.clock, w, id, refl))
  notifying t (Ticks now w below room due.Copied passed (Notifies o reply) id answer) law x e =
      let k = law.rows.0.0 in absurd (cc k)
  notifying t (Ticks now w below room due.Expired passed (Notifies o reply) id answer) law x e =
      let k = law.rows.0.0 in absurd (cc k)
  notifying t (Ticks now w below room (due.Ready a) passed (Notifies o reply) id answer) law x e =
      let s : Own = heard (own_of limits szx t) now (ticking (own_of limits szx t) now below room (due.Ready a)) in
      absurd (never_notifies_ready (question_of s.clock a s.waiting) s.store s.clock o reply law.rows.0.0)
  notifying t _ law x e = absurd (cc e)

  here : (t : List Call) (c : Call) → ServerLaw limits szx setup (c ∷ t) → GoesOutHere limits szx setup t c
  here t c law =
      record {
        answers = λ a h. answer_sent a (lower (own_of limits szx t) c) h;
        serves = λ x e. served_sent (own_of limits szx t) c x e;
        made = λ a r h. made_here limits szx setup t c law a r h;
        responses = λ a r h. given_in (GoesOut a r) (λ d. responds_with d ≡ Some (a, r)) (response_out a r) limits szx
            setup t c law h;
        notices = λ x e.
            let r : E.Response = notification (own_of limits szx t).store x.observer x.reply in
            let plain : Bool = plain_in (own_of limits szx t) c in
            given_in (InEither plain x.observer.to (P.content_with x.observer.token r))
            (IsNotifying plain x.observer r) (notice_out plain x.observer r) limits szx setup t c law
            (notifying t c law x e);
      }

  pub all_go_out : (t : List Call) → ServerLaw limits szx setup t → AllGoOut limits szx setup t
  all_go_out [] law = tt
  all_go_out (c ∷ t) law = (here t c law, all_go_out t (server_back limits szx setup c t law))
