-- The law leaves each call of a server one answer.
use Rattle.std.proofs.Common.{◌≡◌, ℕ, max, Bool, true, false, Option, Some, None, List, [], ◌∷◌, ◌++◌, length, refl, ap}
use Rattle.std.proofs.Common.{sym, subst}
use Rattle.std.proofs.Common.{◌∙◌}
use Rattle.coap_types.specs.declared.endpoint.Endpoint.{Endpoint}
use Rattle.coap_codec.specs.Message.{Message}
use Rattle.coap_layer.specs.Trace as L
use Rattle.coap_layer.specs.declared.setup.Setup.{Setup}
use Rattle.coap_resource.specs.Content.{put_refusal}
use Rattle.coap_resource.specs.Rate.{rate_refusal}
use Rattle.coap_resource.specs.Limits.{Limits}
use Rattle.coap_exchange.specs.declared.answerer.Asked.{Asked}
use Rattle.coap_exchange.specs.declared.answerer.Due.{Due}
use Rattle.coap_exchange.specs.declared.answerer.Due.TheVariants as due
use Rattle.coap_exchange.specs.AnswererTrace as E
use Rattle.coap_exchange.specs.AnswererLaw as W
use Rattle.coap_exchange.specs.AnswererLaw.{ResponseLaw}
use Rattle.coap_exchange.proofs.Facts.ServerSide.{exact}
use Rattle.coap_server.specs.Trace.{Own, Handling, Replies, Serves, Notifies, Call}
use Rattle.coap_server.specs.Trace.{Feeds}
use Rattle.coap_server.specs.Responses.{bare}
use Rattle.coap_server.specs.Refusing.{refused_or_fed, refusing}
use Rattle.coap_server.specs.Trace.{Ticks}
use Rattle.coap_server.specs.Serving.{response_to}
use Rattle.coap_server.specs.Deferring.{deferral, question_of}
use Rattle.coap_server.specs.Notifying.{marked, behind, readies, notification, NotifiesNext}
use Rattle.coap_server.specs.Handling.{HandlesDue, is_done}
use Rattle.coap_server.specs.Asks.{answering, notifies_by, responding}
use Rattle.coap_server.specs.Plain.{by_plain}
use Rattle.coap_server.specs.Notifying.{notified}
use Rattle.coap_observe.specs.Observers.{Observer}
use Rattle.coap_resource.specs.Content.{Held}
use Rattle.coap_server.proofs.Facts.Observing.Outcomes.{never_notifies_ready}
use Rattle.coap_server.specs.Steps.{came_after, refused_after, due_after, exchanges_after, handled, observers_due}
use Rattle.coap_server.specs.Steps.{ready_in}
use Rattle.coap_server.specs.Steps.{waiting_due}
use Rattle.coap_server.specs.Law.{own_of, lower_of, ServerLaw}
use Rattle.coap_server.specs.Follows.Exact.{fed, turned, LeaveAlike, IsExact}
use Rattle.coap_server.proofs.Facts.Exact.Asked.{joined, one_back, back, found, ticked, lower_same, moved}
use Rattle.coap_server_laws.proofs.Exact.OneHandling.{came_alike, waited_alike, next_alike}
use Rattle.coap_server_laws.proofs.Exact.StoreExactly.{set_alike, removed_alike}

module _ (setup : Setup) (s : Own) where
  -- a response
  module _ (first : E.Call) (calls : List E.Call) where
    abbrev LawOf : List E.Call → Type 0
    LawOf xs = ResponseLaw setup ((xs ++ first ∷ []) ++ calls)

    answering_alike : (came : Option (Asked × Message)) (h : Handling) (below beyond : L.Answer)
        → LawOf (answering s came h below) → LawOf (answering s came h beyond)
        → answering s came h below ≡ answering s came h beyond
    answering_alike (Some a) (Replies r) below beyond p q =
        ap (λ z. E.Answers a.0 r z ∷ []) ((exact setup (first ∷ calls)).answers a.0 r below beyond p q)
    answering_alike (Some a) (Serves u reply left) below beyond p q =
        ap (λ z. E.Answers a.0 (response_to s.store s.observers a.0 u reply) z ∷ deferral s a.0 u)
        ((exact setup ((deferral s a.0 u ++ first ∷ []) ++ calls)).answers a.0
        (response_to s.store s.observers a.0 u reply) below beyond p q)
    answering_alike _ _ below beyond p q = refl

    pub refusing_alike : (p : Asked × Message) (response : Option ℕ) (below beyond : L.Answer)
        → LawOf (refusing p.0 response below) → LawOf (refusing p.0 response beyond)
        → refusing p.0 response below ≡ refusing p.0 response beyond
    refusing_alike p None below beyond x y = refl
    refusing_alike p (Some n) below beyond x y =
        ap (λ z. E.Answers p.0 (bare n) z ∷ []) ((exact setup (first ∷ calls)).answers p.0 (bare n) below beyond x y)

  -- a turn
  module _ (w : ℕ) (below : L.Answer) (calls : List E.Call) where
    abbrev Base : Due → Bool → List E.Call
    Base d room = E.Ticks s.clock below room d ∷ calls

    -- what is asked before a notification
    asked_first : (passed : ℕ) (h : Handling) (id : ℕ) (room : Bool)
        → ResponseLaw setup (responding s due.Idle passed h w id ++ Base due.Idle room)
        → ResponseLaw setup (readies s.clock passed (marked s.observers) ++ Base due.Idle room)
    asked_first passed (Notifies o reply) id room p =
        one_back setup (notifies_by (by_plain s o) s.clock o (notification s.store o reply) w id)
        (readies s.clock passed (marked s.observers) ++ Base due.Idle room) p
    asked_first passed _ id room p = p

    one_number : (plain : Bool) (o : Observer) (r : E.Response) (id number : ℕ) (past : List E.Call)
        → ResponseLaw setup (notifies_by plain s.clock o r w id ∷ past)
        → ResponseLaw setup (notifies_by plain s.clock o r w number ∷ past) → id ≡ number
    one_number true o r id number past p q = (exact setup past).notifies_plain s.clock o.to o.token r id number p q
    one_number false o r id number past p q = (exact setup past).notifies s.clock o.to o.token r w id number p q

    notifying_alike : (passed skipped : ℕ) (h : Handling) (id number : ℕ) (room : Bool)
        → readies s.clock passed (marked s.observers) ≡ readies s.clock skipped (marked s.observers)
        → ResponseLaw setup (responding s due.Idle passed h w id ++ Base due.Idle room)
        → ResponseLaw setup (responding s due.Idle skipped h w number ++ Base due.Idle room)
        → responding s due.Idle passed h w id ≡ responding s due.Idle skipped h w number
    notifying_alike passed skipped (Notifies o reply) id number room e p q =
        let r : E.Response = notification s.store o reply in
        let same : id ≡ number = one_number (by_plain s o) o r id number
        (readies s.clock passed (marked s.observers) ++ Base due.Idle room) p
        (subst (λ z. ResponseLaw setup (notifies_by (by_plain s o) s.clock o r w number ∷ z ++ Base due.Idle room))
        (sym e) q) in
        ap (λ z. notifies_by (by_plain s o) s.clock o r w z ∷ readies s.clock passed (marked s.observers)) same
        ∙ ap (λ z. notifies_by (by_plain s o) s.clock o r w number ∷ z) e
    notifying_alike passed skipped _ id number room e p q = e

    responding_alike : (a : Asked) (passed skipped : ℕ) (h : Handling) (id number : ℕ) (room : Bool)
        → ResponseLaw setup (responding s (due.Ready a) passed h w id ++ Base (due.Ready a) room)
        → ResponseLaw setup (responding s (due.Ready a) skipped h w number ++ Base (due.Ready a) room)
        → responding s (due.Ready a) passed h w id ≡ responding s (due.Ready a) skipped h w number
    responding_alike a passed skipped (Serves u reply left) id number room p q =
        let r : E.Response = response_to s.store s.observers a u reply in
        ap (λ z. E.Responds s.clock a r w z ∷ []) ((exact setup (Base (due.Ready a) room)).responds s.clock a r w id
        number p q)
    responding_alike a passed skipped _ id number room p q = refl

    -- equal turns: what is done, and what is asked
    abbrev TurnAlike : Due → ℕ → ℕ → Handling → Handling → ℕ → ℕ → Type 0
    TurnAlike d passed skipped h k id number = (h ≡ k)
        × (responding s d passed h w id ≡ responding s d skipped k w number)

    turn_alike : (d : Due) (passed skipped : ℕ) (h k : Handling) (id number : ℕ) (room : Bool) → HandlesDue s d passed h
        → HandlesDue s d skipped k → ResponseLaw setup (responding s d passed h w id ++ Base d room)
        → ResponseLaw setup (responding s d skipped k w number ++ Base d room)
        → TurnAlike d passed skipped h k id number
    turn_alike due.Idle passed skipped h k id number room a b p q =
        let e = found setup s.clock (marked s.observers) passed skipped (Base due.Idle room)
        (asked_first passed h id room p) (asked_first skipped k number room q) in
        let same = next_alike (behind passed (marked s.observers)) s.store h k a
        (subst (λ z. NotifiesNext z s.store k) (sym e.0) b) in
        let r = notifying_alike passed skipped h id number room e.1 p
        (subst (λ z. ResponseLaw setup (responding s due.Idle skipped z w number ++ Base due.Idle room))
        (sym same) q) in
        (same, r ∙ ap (λ z. responding s due.Idle skipped z w number) same)
    turn_alike (due.Ready x) passed skipped h k id number room a b p q =
        let same = waited_alike (question_of s.clock x s.waiting) s.store s.clock h k a b in
        let r = responding_alike x passed skipped h id number room p
        (subst (λ z. ResponseLaw setup (responding s (due.Ready x) skipped z w number ++ Base (due.Ready x) room))
        (sym same) q) in
        (same, r ∙ ap (λ z. responding s (due.Ready x) skipped z w number) same)
    turn_alike due.Copied passed skipped h k id number room a b p q = (a ∙ sym b, refl)
    turn_alike due.Expired passed skipped h k id number room a b p q = (a ∙ sym b, refl)

-- what is left by equal turns: of a notification in a NON its Message ID is kept
module _ (s : Own) (w : ℕ) where
  number_of : (plain : Bool) (o : Observer) (r : E.Response) (id number : ℕ) (xs ys : List E.Call) (held : Option Held)
      → notifies_by plain s.clock o r w id ∷ xs ≡ notifies_by plain s.clock o r w number ∷ ys
      → notified plain s.clock id held o s.observers ≡ notified plain s.clock number held o s.observers
  number_of plain o r id number xs ys None e = refl
  number_of false o r id number xs ys (Some held) e = refl
  number_of true o r id number xs ys (Some held) e =
      let same : id ≡ number = cc e in ap (λ n. notified true s.clock n (Some held) o s.observers) same

  observers_alike : (d : Due) (passed skipped : ℕ) (h : Handling) (id number : ℕ) → HandlesDue s d passed h
      → responding s d passed h w id ≡ responding s d skipped h w number
      → observers_due s d h id ≡ observers_due s d h number
  observers_alike due.Idle passed skipped (Notifies o reply) id number right e =
      number_of (by_plain s o) o (notification s.store o reply) id number (readies s.clock passed (marked s.observers))
      (readies s.clock skipped (marked s.observers)) (s.store.holds o.path) e
  observers_alike due.Copied passed skipped (Notifies o reply) id number right e = absurd (cc right)
  observers_alike due.Expired passed skipped (Notifies o reply) id number right e = absurd (cc right)
  observers_alike (due.Ready a) passed skipped (Notifies o reply) id number right e =
      absurd (never_notifies_ready (question_of s.clock a s.waiting) s.store s.clock o reply right)
  observers_alike d passed skipped _ id number right e = refl

  left_alike : (d : Due) (passed skipped : ℕ) (h k : Handling) (id number : ℕ) → HandlesDue s d passed h → h ≡ k
      → responding s d passed h w id ≡ responding s d skipped k w number
      → due_after s d h id (responding s d passed h w id) ≡ due_after s d k number (responding s d skipped k w number)
  left_alike d passed skipped h k id number right same e =
      let back : responding s d passed h w id ≡ responding s d skipped h w number =
      e ∙ ap (λ z. responding s d skipped z w number) (sym same) in
      let told : observers_due s d h id ≡ observers_due s d k number =
      observers_alike d passed skipped h id number right back ∙ ap (λ z. observers_due s d z number) same in
      ap (λ z. record (handled s (ready_in d) z) {
        exchanges = exchanges_after s.exchanges (responding s d passed h w id);
        observers = observers_due s d h id;
        waiting = waiting_due s.clock (ready_in d) s.waiting;
      }) same
      ∙ (ap (λ xs. record (handled s (ready_in d) k) {
        exchanges = exchanges_after s.exchanges xs;
        observers = observers_due s d h id;
        waiting = waiting_due s.clock (ready_in d) s.waiting;
      }) e
      ∙ ap (λ os. record (handled s (ready_in d) k) {
        exchanges = exchanges_after s.exchanges (responding s d skipped k w number);
        observers = os;
        waiting = waiting_due s.clock (ready_in d) s.waiting;
      }) told)

module _ (limits : Limits) (szx : ℕ) (setup : Setup) (past : List Call) where
  abbrev own : Own
  own = own_of limits szx past

  abbrev calls : List E.Call
  calls = lower_of limits szx past

  abbrev Law : Call → Type 0
  Law c = ServerLaw limits szx setup (c ∷ past)

  abbrev Alike : Call → Call → Type 0
  Alike c d = LeaveAlike limits szx past c d

  -- of equal arrivals that are handled alike
  module _ (now : ℕ) (from : Endpoint) (bytes : List ℕ) (w : ℕ) (up : L.Answer) (came : Option (Asked × Message))
      (h : Handling) (below beyond : L.Answer) where
    abbrev FedAlike : L.Answer → Option (Asked × Message) → Handling → Type 0
    FedAlike u c k = (answering (fed limits szx past now from bytes up came) came h below
        ≡ answering (fed limits szx past now from bytes u c) c k beyond)
        × Alike (Feeds now from bytes w up came h below) (Feeds now from bytes w u c k beyond)

    fed_alike : Law (Feeds now from bytes w up came h below) → Law (Feeds now from bytes w up came h beyond)
        → FedAlike up came h
    fed_alike p q =
        let s : Own = fed limits szx past now from bytes up came in
        let first : E.Call = E.Incoming s.clock from bytes up came in
        let asks = answering_alike setup s first calls came h below beyond p.exchanges q.exchanges in (
          asks,
          record {
            own = ap (λ z. came_after s came h z) asks;
            beneath = ap (λ z. W.lower_of ((z ++ first ∷ []) ++ calls)) asks;
          },
        )

  heard_alike : (now : ℕ) (from : Endpoint) (bytes : List ℕ) (w : ℕ) (up other : L.Answer)
      (came come : Option (Asked × Message)) (h k : Handling) (below beyond : L.Answer)
      → Law (Feeds now from bytes w up came h below)
      → Law (Feeds now from bytes w other come k beyond)
      → (up ≡ other) × (came ≡ come) × (h ≡ k) × (answering (fed limits szx past now from bytes up came) came h below
      ≡ answering (fed limits szx past now from bytes other come) come k beyond)
      × Alike (Feeds now from bytes w up came h below) (Feeds now from bytes w other come k beyond)
  heard_alike now from bytes w up other came come h k below beyond p q =
      let s : Own = fed limits szx past now from bytes up came in
      let t : Own = fed limits szx past now from bytes other come in
      let first : E.Call = E.Incoming s.clock from bytes up came in
      let second : E.Call = E.Incoming t.clock from bytes other come in
      let a = back setup (answering s came h below) (first ∷ calls)
      (subst (ResponseLaw setup) (joined (answering s came h below) first calls) p.exchanges) in
      let b = back setup (answering t come k beyond) (second ∷ calls)
      (subst (ResponseLaw setup) (joined (answering t come k beyond) second calls) q.exchanges) in
      let e = (exact setup calls).incoming s.clock from bytes up other came come a b in
      let heard_so = subst (λ z. Law (Feeds now from bytes w z came k beyond)) (sym e.0)
      (subst (λ z. Law (Feeds now from bytes w other z k beyond)) (sym e.1) q) in
      let handled = came_alike s came h k p.rows.0 heard_so.rows.0 in
      let r = fed_alike now from bytes w up came h below beyond p
      (subst (λ z. Law (Feeds now from bytes w up came z beyond)) (sym handled) heard_so) in
      let f = subst (λ z. FedAlike now from bytes w up came h below beyond z come k) e.0
      (subst (λ z. FedAlike now from bytes w up came h below beyond up z k) e.1
      (subst (λ z. FedAlike now from bytes w up came h below beyond up came z) handled r)) in
      (e.0, e.1, handled, f.0, f.1)

  -- of equal refusals: the same comes, and where that is a request, it is answered alike
  module _ (now : ℕ) (from : Endpoint) (bytes : List ℕ) (w code : ℕ) where
    abbrev at : ℕ
    at = max own.clock now

    abbrev OfRefusal : L.Answer → Option (Asked × Message) → Option ℕ → L.Answer → Type 0
    OfRefusal up came response below = Law (refused_or_fed now from bytes w code up came response below)

    came_first : (up : L.Answer) (came : Option (Asked × Message)) (response : Option ℕ) (below : L.Answer)
        → OfRefusal up came response below → ResponseLaw setup (E.Incoming at from bytes up came ∷ calls)
    came_first up None response below p = p.exchanges
    came_first up (Some a) response below p =
        let first : E.Call = E.Incoming at from bytes up (Some a) in
        let asks : List E.Call = refusing a.0 response below in
        back setup asks (first ∷ calls) (subst (ResponseLaw setup) (joined asks first calls) p.exchanges)

    said_alike : (up : L.Answer) (a : Asked × Message) (response another : Option ℕ) (below beyond : L.Answer)
        → OfRefusal up (Some a) response below → OfRefusal up (Some a) another beyond → response ≡ another
    said_alike up a response another below beyond p q = p.rows.0.is ∙ sym q.rows.0.is

    left_alike_so : (up : L.Answer) (came : Option (Asked × Message)) (response another : Option ℕ)
        (below beyond : L.Answer) → OfRefusal up came response below → OfRefusal up came another beyond
        → ((a : Asked × Message) → came ≡ Some a → response ≡ another)
        × Alike (refused_or_fed now from bytes w code up came response below)
        (refused_or_fed now from bytes w code up came another beyond)
    left_alike_so up None response another below beyond p q =
        (λ a e. absurd (cc e), record { own = refl; beneath = refl })
    left_alike_so up (Some a) response another below beyond p q =
        let first : E.Call = E.Incoming at from bytes up (Some a) in
        let said = said_alike up a response another below beyond p q in
        let same : OfRefusal up (Some a) response beyond = subst (λ o. OfRefusal up (Some a) o beyond) (sym said) q in
        let asks = refusing_alike setup own first calls a response below beyond p.exchanges same.exchanges in
        let all = asks ∙ ap (λ o. refusing a.0 o beyond) said in (
          λ b e. said,
          record {
            own = ap (λ z. refused_after own now first z) all;
            beneath = ap (λ z. W.lower_of ((z ++ first ∷ []) ++ calls)) all;
          },
        )

    refused_alike : (up other : L.Answer) (came come : Option (Asked × Message)) (response another : Option ℕ)
        (below beyond : L.Answer) → OfRefusal up came response below → OfRefusal other come another beyond
        → (up ≡ other) × (came ≡ come) × ((a : Asked × Message) → came ≡ Some a → response ≡ another)
        × Alike (refused_or_fed now from bytes w code up came response below)
        (refused_or_fed now from bytes w code other come another beyond)
    refused_alike up other came come response another below beyond p q =
        let e = (exact setup calls).incoming at from bytes up other came come
        (came_first up came response below p) (came_first other come another beyond q) in
        let same : OfRefusal up came another beyond = subst (λ z. OfRefusal z came another beyond) (sym e.0)
        (subst (λ z. OfRefusal other z another beyond) (sym e.1) q) in
        let k = left_alike_so up came response another below beyond p same in
        let alike = subst (λ z. Alike (refused_or_fed now from bytes w code up came response below)
        (refused_or_fed now from bytes w code z come another beyond)) e.0
        (subst (λ z. Alike (refused_or_fed now from bytes w code up came response below)
        (refused_or_fed now from bytes w code up z another beyond)) e.1 k.1) in
        (e.0, e.1, k.0, alike)

  -- of equal turns
  module _ (now w : ℕ) (below : L.Answer) (room space : Bool) (d : Due) (passed skipped : ℕ) (h k : Handling)
      (id number : ℕ) (answer another : Bool) where
    abbrev TickAlike : L.Answer → Due → Type 0
    TickAlike b t =
        (h ≡ k) × (responding (turned limits szx past now below room d) d passed h w id
        ≡ responding (turned limits szx past now b space t) t skipped k w number) × (answer ≡ another)
        × Alike (Ticks now w below room d passed h id answer) (Ticks now w b space t skipped k number another)

    tick_alike : Law (Ticks now w below room d passed h id answer)
        → Law (Ticks now w below space d skipped k number another) → TickAlike below d
    tick_alike p q =
        let s : Own = turned limits szx past now below room d in
        let xs : List E.Call = responding s d passed h w id in
        let ys : List E.Call = responding s d skipped k w number in
        let a : ResponseLaw setup (xs ++ ticked setup s.clock below d calls room) =
        subst (ResponseLaw setup) (joined xs (E.Ticks s.clock below room d) calls) p.exchanges in
        let b : ResponseLaw setup (ys ++ ticked setup s.clock below d calls space) =
        subst (ResponseLaw setup) (joined ys (E.Ticks s.clock below space d) calls) q.exchanges in
        let first = back setup xs (ticked setup s.clock below d calls room) a in
        let second = back setup ys (ticked setup s.clock below d calls space) b in
        let turn = turn_alike setup s w below calls d passed skipped h k id number room p.rows.0.0 q.rows.0.0 a
        (moved setup s.clock below d calls ys room space first b) in
        let handled = turn.0 in (
          handled,
          turn.1,
          p.rows.0.1 ∙ (ap (λ z. is_done d z) handled ∙ sym q.rows.0.1),
          record {
            own = left_alike s w d passed skipped h k id number p.rows.0.0 handled turn.1;
            beneath = ap W.lower_of (joined xs (E.Ticks s.clock below room d) calls)
                ∙ (ap (λ z. W.lower_of (z ++ ticked setup s.clock below d calls room)) turn.1
                ∙ (lower_same setup s.clock below d calls ys room space first second
                ∙ sym (ap W.lower_of (joined ys (E.Ticks s.clock below space d) calls))));
          },
        )

  turns_alike : (now w : ℕ) (below other : L.Answer) (room space : Bool) (d t : Due) (passed skipped : ℕ)
      (h k : Handling) (id number : ℕ) (answer another : Bool) → Law (Ticks now w below room d passed h id answer)
      → Law (Ticks now w other space t skipped k number another)
      → (below ≡ other) × (d ≡ t) × (h ≡ k) × (responding (turned limits szx past now below room d) d passed h w id
      ≡ responding (turned limits szx past now other space t) t skipped k w number) × (answer ≡ another)
      × Alike (Ticks now w below room d passed h id answer) (Ticks now w other space t skipped k number another)
  turns_alike now w below other room space d t passed skipped h k id number answer another p q =
      let x : Own = turned limits szx past now below room d in
      let y : Own = turned limits szx past now other space t in
      let xs : List E.Call = responding x d passed h w id in
      let ys : List E.Call = responding y t skipped k w number in
      let a = back setup xs (E.Ticks x.clock below room d ∷ calls)
      (subst (ResponseLaw setup) (joined xs (E.Ticks x.clock below room d) calls) p.exchanges) in
      let b = back setup ys (E.Ticks y.clock other space t ∷ calls)
      (subst (ResponseLaw setup) (joined ys (E.Ticks y.clock other space t) calls) q.exchanges) in
      let e = (exact setup calls).ticks x.clock below other room space d t a b in
      let passed_so = subst (λ z. Law (Ticks now w z space d skipped k number another)) (sym e.0)
      (subst (λ z. Law (Ticks now w other space z skipped k number another)) (sym e.1) q) in
      let r = tick_alike now w below room space d passed skipped h k id number answer another p passed_so in
      let f = subst (λ z. TickAlike now w below room space d passed skipped h k id number answer another z t) e.0
      (subst (λ z. TickAlike now w below room space d passed skipped h k id number answer another below z) e.1 r) in
      (e.0, e.1, f.0, f.1, f.2, f.3)

  pub is_exact : IsExact limits szx setup past
  is_exact = record {
    sets = λ now path format body answer another left other p q.
        set_alike (put_refusal own.store (max own.clock now) path (length body)) own.store
        (max own.clock now) path format body answer another left other p.rows.0 q.rows.0;
    removes = λ now path answer another left other p q.
        removed_alike (own.store.holds path) (rate_refusal own.store.tally (max own.clock now)) own.store
        (max own.clock now) path answer another left other p.rows.0 q.rows.0;
    delays = λ path ms answer another p q. p.rows.0 ∙ sym q.rows.0;
    plains = λ path answer another p q. p.rows.0 ∙ sym q.rows.0;
    feeds = heard_alike;
    refuses = refused_alike;
    ticks = turns_alike;
    next_out = λ answer another p q. (exact setup calls).take answer another p.exchanges q.exchanges;
    gets = λ path answer another p q. p.rows.0 ∙ sym q.rows.0;
    tells_applied = λ answer another p q. p.rows.0 ∙ sym q.rows.0;
  }
