-- What is due is done behind what the exchanges do of it, and both are one call of the server (RFC 7252, section 5.2.2;
-- RFC 7641, section 4.5).
use Rattle.std.proofs.Common.{◌≡◌, ℕ, max, Bool, true, false, Option, Some, None, Result, Ok, Err, IfOk, List, []}
use Rattle.std.proofs.Common.{◌∷◌, refl, ap, sym, subst, ◌∙◌, option_map}
use Rattle.coap_layer.specs.Trace as L
use Rattle.coap_observe.specs.Notices.{but_noted}
use Rattle.coap_observe.specs.Observers.{Observer}
use Rattle.coap_resource.specs.Content.{Content, Held}
use Rattle.coap_resource.specs.Serves.{Question}
use Rattle.coap_exchange.specs.declared.answerer.Asked.{Asked}
use Rattle.coap_exchange.specs.declared.answerer.Due.{Due}
use Rattle.coap_exchange.specs.declared.answerer.Due.TheVariants as due
use Rattle.coap_exchange.specs.declared.answerer.Ended.{Ended}
use Rattle.coap_exchange.specs.AnswererLaw as X
use Rattle.coap_exchange.specs.AnswererTrace as E
use Rattle.coap_exchange.proofs.Facts.ServerSide.{exchanged_join, exchanged_own}
use Rattle.coap_server.specs.Trace as T
use Rattle.coap_server.specs.Trace.{Handling, Silent, Serves, Notifies, Ticks}
use Rattle.coap_server.specs.Asks.{responding}
use Rattle.coap_server.specs.Observers.{unless_ended}
use Rattle.coap_server.specs.Serving.{response_to, observers_served}
use Rattle.coap_server.specs.Deferring.{AnswersWaiting, question_of, without_waiting}
use Rattle.coap_server.specs.Notifying.{marked, behind, readies, NotifiesNext, notification, notified}
use Rattle.coap_server.specs.Notifying.{told}
use Rattle.coap_server.specs.Handling.{ticking, heard, HandlesDue}
use Rattle.coap_server.specs.Steps.{due_after, exchanges_after}
use Rattle.coap_server.specs.Led.{State, exchanges_of, Step}
use Rattle.coap_server.specs.Object.Handled.{ServesRequest}
use Rattle.coap_server.specs.Turns.Turned.{IsTurned}
use Rattle.coap_server.proofs.Calls.PassedOver.{whole_of}
use Rattle.coap_server.proofs.Calls.WaitingLists.{all_stay}
use Rattle.coap_server.specs.Asks.{notifies_by}
use Rattle.coap_server.specs.Plain.{by_plain, goes_plain}

-- the whole call

module _ (old mid new : State) (now at word : ℕ) (below : L.Answer) (room : Bool) (d : Due) (did : Bool) where
  abbrev c : E.Call
  c = ticking old.own now below room d

  pub ticked : at ≡ max old.own.clock now → X.Step (exchanges_of old) (E.Ticks at below room d) (exchanges_of mid)
      → mid.own ≡ record old.own {
        clock = at;
        exchanges = mid.own.exchanges;
        observers = unless_ended mid.own.exchanges.ended old.own.observers;
      }
      → IsTurned mid d word did new → (passed : ℕ) × (h : Handling) × (id : ℕ)
      × Step old (Ticks now word below room d passed h id did) new
  ticked moment step kept turned =
      let step' : X.Step (exchanges_of old) c (exchanges_of mid) =
      subst (λ t. X.Step (exchanges_of old) (E.Ticks t below room d) (exchanges_of mid)) moment step in
      let is : mid.own ≡ heard old.own now c =
      kept ∙ (ap (λ t. record old.own {
        clock = t;
        exchanges = mid.own.exchanges;
        observers = unless_ended mid.own.exchanges.ended old.own.observers;
      }) moment
      ∙ ap (λ (e : E.Own). record old.own {
        clock = max old.own.clock now;
        exchanges = e;
        observers = unless_ended e.ended old.own.observers;
      }) step'.own_is) in (
        turned.passed,
        turned.handling,
        turned.id,
        record {
          right = (subst (λ s. HandlesDue s d turned.passed turned.handling) is turned.right, turned.answer_is);
          own_is = turned.left ∙ ap (λ s. due_after s d turned.handling turned.id
              (responding s d turned.passed turned.handling word turned.id)) is;
          under = exchanged_join (exchanges_of old) (exchanges_of mid) (exchanges_of new)
              (responding (heard old.own now c) d turned.passed turned.handling word turned.id) (c ∷ [])
              (exchanges_of old, refl, step')
              (subst (λ s. X.Exchanged (exchanges_of mid) (responding s d turned.passed turned.handling word turned.id)
              (exchanges_of new)) is turned.asks);
        },
      )

  -- .. where the observers are said apart
  pub ticked_by : (observers : List Observer) (ended : Option Ended) → at ≡ max old.own.clock now
      → X.Step (exchanges_of old) (E.Ticks at below room d) (exchanges_of mid)
      → observers ≡ unless_ended ended old.own.observers → ended ≡ mid.own.exchanges.ended
      → mid.own ≡ record old.own { clock = at; exchanges = mid.own.exchanges; observers = observers }
      → IsTurned mid d word did new → (passed : ℕ) × (h : Handling) × (id : ℕ)
      × Step old (Ticks now word below room d passed h id did) new
  ticked_by observers ended moment step left is kept turned =
      ticked moment step
      (kept ∙ ap (λ (os : List Observer). record old.own { clock = at; exchanges = mid.own.exchanges; observers = os })
      (left ∙ ap (λ (e : Option Ended). unless_ended e old.own.observers) is))
      turned

pub if_ok : {X Y : Type 0} {P Q : X → Type 0} (r : Result X Y) → ((x : X) → P x → Q x) → IfOk r P → IfOk r Q
if_ok (Ok x) f p = f x p
if_ok (Err e) f p = tt

-- a request that is ready

module _ (s new : State) (a : Asked) (word : ℕ) where
  abbrev SameBut : E.Own → Content → List Observer → List T.Waiting → List T.Applied → Type 0
  SameBut exchanges store observers waiting applied =
      new.own ≡ record s.own {
        exchanges = exchanges;
        store = store;
        observers = observers;
        waiting = waiting;
        applied = applied;
      }

  pub none_waits : question_of s.own.clock a s.own.waiting ≡ None
      → new ≡ record s { own = record s.own { applied = [] } } → IsTurned s (due.Ready a) word true new
  none_waits none is =
      record {
        passed = 0;
        handling = Silent;
        id = 0;
        right = subst (λ q. AnswersWaiting q s.own.store s.own.clock Silent) (sym none) refl;
        answer_is = refl;
        asks = ap exchanges_of is;
        left = ap (λ (z : State). z.own) is ∙ ap (λ (ws : List T.Waiting). record s.own { applied = []; waiting = ws })
            (sym (all_stay (λ (w : T.Waiting). w) s.own.clock a s.own.waiting none));
      }

  pub responded : (q : Question) (response : E.Response) (applied : List T.Applied) (left : Content)
      (told : List Observer) (waiting : List T.Waiting) (id : ℕ)
      → question_of s.own.clock a s.own.waiting ≡ Some q
      → ServesRequest s.own.store s.own.observers s.own.clock a q response applied left told
      → X.Step (exchanges_of s) (E.Responds s.own.clock a response word id) (exchanges_of new)
      → waiting ≡ without_waiting s.own.clock a s.own.waiting
      → SameBut new.own.exchanges left told waiting applied → IsTurned s (due.Ready a) word true new
  responded q response applied left told waiting id asks served step stay kept =
      let h : Handling = Serves q served.reply left in
      let call : E.Call = E.Responds s.own.clock a (response_to s.own.store s.own.observers a q served.reply) word id in
      let sent : X.Step (exchanges_of s) call (exchanges_of new) =
      subst (λ r. X.Step (exchanges_of s) (E.Responds s.own.clock a r word id) (exchanges_of new))
      served.response_is step in
      record {
        passed = 0;
        handling = h;
        id = id;
        right = subst (λ z. AnswersWaiting z s.own.store s.own.clock h) (sym asks)
            (record { reply = served.reply; left = left; serves = served.serves; is = refl });
        answer_is = refl;
        asks = (exchanges_of s, refl, sent);
        left = kept
            ∙ (ap (λ (e : E.Own). record s.own {
              exchanges = e;
              store = left;
              observers = told;
              waiting = waiting;
              applied = applied;
            }) sent.own_is
            ∙ (ap (λ (ws : List T.Waiting). record s.own {
              exchanges = exchanges_after s.own.exchanges (call ∷ []);
              store = left;
              observers = told;
              waiting = ws;
              applied = applied;
            }) stay
            ∙ (ap (λ (os : List Observer). record s.own {
              exchanges = exchanges_after s.own.exchanges (call ∷ []);
              store = left;
              observers = os;
              waiting = without_waiting s.own.clock a s.own.waiting;
              applied = applied;
            }) served.observers_is
            ∙ ap (λ (xs : List T.Applied). record s.own {
              exchanges = exchanges_after s.own.exchanges (call ∷ []);
              store = left;
              observers = observers_served s.own.clock s.own.store a q served.reply left s.own.observers;
              waiting = without_waiting s.own.clock a s.own.waiting;
              applied = xs;
            }) served.applied_is)));
      }

-- a notification

notified_as : (plain : Bool) (at id : ℕ) (held : Option Held) (o : Observer) (os : List Observer)
    → notified plain at id held (but_noted o) os ≡ notified plain at id held o os
notified_as plain at id None o os = refl
notified_as true at id (Some held) o os = refl
notified_as false at id (Some held) o os = refl

plain_as : (s : T.Own) (o : Observer) → by_plain s (but_noted o) ≡ by_plain s o
plain_as s o = by (s.store.holds o.path)
  where
    by : (held : Option Held) → goes_plain s.plains s.clock held (but_noted o) ≡ goes_plain s.plains s.clock held o
    by None = refl
    by (Some held) = refl

notifies_as : (plain : Bool) (at : ℕ) (o : Observer) (r : E.Response) (word id : ℕ)
    → notifies_by plain at (but_noted o) r word id ≡ notifies_by plain at o r word id
notifies_as true at o r word id = refl
notifies_as false at o r word id = refl

module _ (s new : State) (word : ℕ) (passed : ℕ) where
  abbrev asked : List E.Call
  asked = readies s.own.clock passed (marked s.own.observers)

  pub none_notified : behind passed (marked s.own.observers) ≡ None
      → X.Exchanged (exchanges_of s) asked (exchanges_of new)
      → new.own ≡ record s.own { exchanges = new.own.exchanges; applied = [] } → IsTurned s due.Idle word false new
  none_notified none asks kept =
      record {
        passed = passed;
        handling = Silent;
        id = 0;
        right = subst (λ o. NotifiesNext o s.own.store Silent) (sym none) refl;
        answer_is = refl;
        asks = asks;
        left = kept ∙ ap (λ (e : E.Own). record s.own { exchanges = e; applied = [] })
            (exchanged_own (exchanges_of s) (exchanges_of new) asked asks);
      }

  one_notified : (mid : X.State) (o : Observer) (id : ℕ) → behind passed (marked s.own.observers) ≡ Some o
      → X.Exchanged (exchanges_of s) asked mid
      → X.Step mid (notifies_by (by_plain s.own o) s.own.clock o (notification s.own.store o (told s.own.store o)) word
      id) (exchanges_of new)
      → new.own ≡ record s.own {
        exchanges = new.own.exchanges;
        observers = notified (by_plain s.own o) s.own.clock id (s.own.store.holds o.path) o s.own.observers;
        applied = [];
      }
      → IsTurned s due.Idle word true new
  one_notified mid o id there asks step kept =
      let h : Handling = Notifies o (told s.own.store o) in
      let calls : List E.Call = notifies_by (by_plain s.own o) s.own.clock o
      (notification s.own.store o (told s.own.store o)) word id ∷ asked in
      let all : X.Exchanged (exchanges_of s) calls (exchanges_of new) = (mid, asks, step) in
      record {
        passed = passed;
        handling = h;
        id = id;
        right = subst (λ z. NotifiesNext z s.own.store h) (sym there) refl;
        answer_is = refl;
        asks = all;
        left = kept
            ∙ ap (λ (e : E.Own). record s.own {
              exchanges = e;
              observers = notified (by_plain s.own o) s.own.clock id (s.own.store.holds o.path) o s.own.observers;
              applied = [];
            })
            (exchanged_own (exchanges_of s) (exchanges_of new) calls all);
      }

  -- .. where the way, the response, the store and the observers are said apart
  one_whole : (mid : X.State) (o : Observer) (id : ℕ) (plain : Bool) (response : E.Response) (store : Content)
      (observers : List Observer) → behind passed (marked s.own.observers) ≡ Some o
      → X.Exchanged (exchanges_of s) asked mid
      → X.Step mid (notifies_by plain s.own.clock o response word id) (exchanges_of new) → plain ≡ by_plain s.own o
      → response ≡ notification s.own.store o (told s.own.store o) → store ≡ s.own.store
      → observers ≡ notified plain s.own.clock id (s.own.store.holds o.path) o s.own.observers
      → new.own ≡ record s.own { exchanges = new.own.exchanges; store = store; observers = observers; applied = [] }
      → IsTurned s due.Idle word true new
  one_whole mid o id plain response store observers there asks step way said same left kept =
      one_notified mid o id there asks
      (subst (λ b. X.Step mid (notifies_by b s.own.clock o (notification s.own.store o (told s.own.store o)) word id)
      (exchanges_of new)) way
      (subst (λ r. X.Step mid (notifies_by plain s.own.clock o r word id) (exchanges_of new)) said step))
      (kept ∙ (ap (λ (c : Content). record s.own {
        exchanges = new.own.exchanges;
        store = c;
        observers = observers;
        applied = [];
      }) same
      ∙ ap (λ (os : List Observer). record s.own { exchanges = new.own.exchanges; observers = os; applied = [] })
      (left ∙ ap (λ b. notified b s.own.clock id (s.own.store.holds o.path) o s.own.observers) way)))

  -- .. and of whom all is told but the last NON
  pub one_told : (mid : X.State) (x : Observer) (id : ℕ) (plain : Bool) (response : E.Response) (store : Content)
      (observers : List Observer) → Some x ≡ option_map but_noted (behind passed (marked s.own.observers))
      → X.Exchanged (exchanges_of s) asked mid
      → X.Step mid (notifies_by plain s.own.clock x response word id) (exchanges_of new) → plain ≡ by_plain s.own x
      → response ≡ notification s.own.store x (told s.own.store x) → store ≡ s.own.store
      → observers ≡ notified plain s.own.clock id (s.own.store.holds x.path) x s.own.observers
      → new.own ≡ record s.own { exchanges = new.own.exchanges; store = store; observers = observers; applied = [] }
      → IsTurned s due.Idle word true new
  one_told mid x id plain response store observers there asks step way said same left kept =
      let w = whole_of (behind passed (marked s.own.observers)) x there in
      let o = w.observer in
      one_whole mid o id plain response store observers w.is asks
      (subst (λ z. X.Step mid z (exchanges_of new)) (notifies_as plain s.own.clock o response word id)
      (subst (λ (z : Observer). X.Step mid (notifies_by plain s.own.clock z response word id) (exchanges_of new))
      w.told step))
      (way ∙ (ap (λ (z : Observer). by_plain s.own z) w.told ∙ plain_as s.own o))
      (said ∙ ap (λ (z : Observer). notification s.own.store z (told s.own.store z)) w.told) same
      (left ∙ (ap (λ (z : Observer). notified plain s.own.clock id (s.own.store.holds z.path) z s.own.observers) w.told
      ∙ notified_as plain s.own.clock id (s.own.store.holds o.path) o s.own.observers)) kept
