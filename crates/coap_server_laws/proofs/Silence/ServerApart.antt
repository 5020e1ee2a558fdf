-- A server that has nothing of a peer asks nothing of its exchanges that is about it, and goes on to have nothing.
use Rattle.std.proofs.Common.{◌≡◌, ℕ, zero, suc, ◌==◌, ◌-◌, max, nat_le, not, Bool, true, false, Option, Some, None}
use Rattle.std.proofs.Common.{List, [], ◌∷◌, refl, ap, sym, subst, ◌∙◌, cond}
use Rattle.std.proofs.lemmas.Bool.{and_parts}
use Rattle.coap_types.specs.declared.endpoint.Endpoint.{Endpoint}
use Rattle.coap_codec.specs.Message.{Message}
use Rattle.coap_layer.specs.Trace as L
use Rattle.coap_layer.specs.declared.setup.Setup.{Setup}
use Rattle.coap_block.specs.Whole.{Each}
use Rattle.coap_observe.specs.Observers.{Observer, changed_at, is_of as is_of_pair, marked_by, noted_by, noted_to}
use Rattle.coap_observe.specs.Observers.{removed}
use Rattle.coap_observe.specs.Observers.{begun, registered, unmarked_by}
use Rattle.coap_resource.specs.Content.{Content, Held}
use Rattle.coap_resource.specs.RequestOptions.{block_of, szx_by}
use Rattle.coap_resource.specs.Serves.{Question, Reply}
use Rattle.coap_resource.specs.Limits.{Limits}
use Rattle.coap_exchange.specs.declared.answerer.Asked.{Asked}
use Rattle.coap_exchange.specs.declared.answerer.Due.{Due}
use Rattle.coap_exchange.specs.declared.answerer.Due.TheVariants as due
use Rattle.coap_exchange.specs.declared.answerer.Ended.{Ended}
use Rattle.coap_exchange.specs.AnswererFollows.{same_asked}
use Rattle.coap_exchange.specs.AnswererTrace as E
use Rattle.coap_exchange.specs.AnswererTrace.{Sending}
use Rattle.coap_exchange.specs.AnswererSteps as P
use Rattle.coap_exchange.specs.AnswererSteps.{may_defer, unmatched_by}
use Rattle.coap_server.specs.Trace.{Own, Waiting, Handling, Call}
use Rattle.coap_server.specs.Trace.{Sets, Removes, Delays, Plains, Feeds, Refuses, Ticks, NextOut, Gets, TellsApplied}
use Rattle.coap_server.specs.Asks.{lower, answering, notifies_by}
use Rattle.coap_server.specs.Refusing.{refusing}
use Rattle.coap_server.specs.Deferring.{deferral, deferral_by, delay_for, is_of, question_of, without_waiting}
use Rattle.coap_server.specs.Handling.{heard, incoming, ticking}
use Rattle.coap_server.specs.Notifying.{marked, notification, notified, readies}
use Rattle.coap_server.specs.Observers.{marked_if, observers_with, observes, registers, unless_ended, unless_rejected}
use Rattle.coap_server.specs.Plain.{by_plain}
use Rattle.coap_server.specs.Serving.{observers_served}
use Rattle.coap_server.specs.Law.{ServerLaw, lower_of, own_of}
use Rattle.coap_server.proofs.Facts.Calls.EachOf.{each_join, each_kept, each_map, each_with}
use Rattle.coap_server.proofs.Facts.Calls.NotifiesBy.{in_either}
use Rattle.coap_server.proofs.Facts.Exact.FirstRow.{first_row}
use Rattle.coap_server.proofs.Facts.Observing.MarkedObservers.{behind_there, each_there, marked_there}
use Rattle.coap_server.proofs.Facts.Observing.ObserverLists.{notified_left, rejected_left}
use Rattle.coap_server.proofs.Facts.Observing.Outcomes.{Came, came, nobody, ignored, replied, served, waits}
use Rattle.coap_server.proofs.Facts.Observing.Outcomes.{Turned, turned, copied, expired, lost, responded, rests}
use Rattle.coap_server.proofs.Facts.Observing.Outcomes.{noticed}
use Rattle.coap_server.proofs.Facts.Serving.SameAsked.{same_asked_is}
use Rattle.coap_server_laws.specs.Follows.Silent.{HearsElse}
use Rattle.coap_server_laws.proofs.Replying.Replies.{came_by}
use Rattle.coap_server_laws.proofs.Silence.LayerApart.{Else}
use Rattle.coap_server_laws.proofs.Silence.ExchangesApart.{AboutElse}
use Rattle.coap_server.specs.Trace.{Forgets}
use Rattle.coap_types.specs.SameEndpoint.{same_endpoint}

module _ (peer : Endpoint) where
  abbrev ElseTo : Observer → Type 0
  ElseTo o = Else peer o.to

  abbrev ElseWaits : Waiting → Type 0
  ElseWaits w = Else peer w.asked.from

  abbrev Others : List Observer → Type 0
  Others os = Each ElseTo os

  -- who observes and what waits is another's
  pub record OwnApart (s : Own) : Type 0 where
    pub observers : Others s.observers
    pub waiting : Each ElseWaits s.waiting

  -- the observers

  removed_apart : (to : Endpoint) (token : List ℕ) (os : List Observer) → Others os → Others (removed to token os)
  removed_apart to token os h = each_kept ElseTo (λ o. not (is_of_pair to token o)) os h

  ended_apart : (e : Option Ended) (os : List Observer) → Others os → Others (unless_ended e os)
  ended_apart None os h = h
  ended_apart (Some x) os h = by x.observe
    where
      by : (b : Bool) → Others (cond b (removed x.to x.token os) os)
      by true = removed_apart x.to x.token os h
      by false = h

  rejected_apart : (at : ℕ) (r : Option Sending) (os : List Observer) → Others os → Others (unless_rejected at r os)
  rejected_apart at r os h = rejected_left Others at r os h (λ to token. removed_apart to token os h)

  marked_apart : (at : ℕ) (path : List (List ℕ)) (old left : Content) (os : List Observer) → Others os
      → Others (marked_if at path old left os)
  marked_apart at path old left os h = by (left.tally.version == old.tally.version)
    where
      by : (b : Bool) → Others (cond b os (changed_at at path os))
      by true = h
      by false = each_map ElseTo (marked_by at path) (λ o k. k) os h

  with_apart : (at : ℕ) (a : Asked) (q : Question) (reply : Reply) (os : List Observer) → Else peer a.from → Others os
      → Others (observers_with at a q reply os)
  with_apart at a q reply os e h = by (registers a q reply os) (observes 1 q)
    where
      by : (b m : Bool)
          → Others (cond b (registered at a.from a.token q.path (szx_by (block_of q.options) q.szx) os)
          (cond m (removed a.from a.token os) os))
      by true m = each_with ElseTo (removed a.from a.token os)
          (begun at a.from a.token q.path (szx_by (block_of q.options) q.szx)) (removed_apart a.from a.token os h) e
      by false true = removed_apart a.from a.token os h
      by false false = h

  served_apart : (at : ℕ) (old : Content) (a : Asked) (q : Question) (reply : Reply) (left : Content)
      (os : List Observer) → Else peer a.from → Others os → Others (observers_served at old a q reply left os)
  served_apart at old a q reply left os e h =
      marked_apart at q.path old left (observers_with at a q reply os) (with_apart at a q reply os e h)

  notified_apart : (plain : Bool) (at id : ℕ) (held : Option Held) (o : Observer) (os : List Observer) → Others os
      → Others (notified plain at id held o os)
  notified_apart plain at id held o os h =
      notified_left Others plain at id held o os (removed_apart o.to o.token os h)
      (each_map ElseTo (unmarked_by at o.to o.token false) (λ x k. k) (noted_to at o.to o.token id os)
      (each_map ElseTo (noted_by at o.to o.token id) (λ x k. k) os h))
      (each_map ElseTo (unmarked_by at o.to o.token true) (λ x k. k) os h)

  -- what waits

  asked_else : (at : ℕ) (a : Asked) (ws : List Waiting) (q : Question) → Each ElseWaits ws
      → question_of at a ws ≡ Some q → Else peer a.from
  asked_else at a [] q h is = absurd (cc is)
  asked_else at a (w ∷ ws) q h is = by (is_of at a w) refl is (asked_else at a ws q h.1)
    where
      by : (b : Bool) → is_of at a w ≡ b → cond b (Some w.question) (question_of at a ws) ≡ Some q
          → (question_of at a ws ≡ Some q → Else peer a.from) → Else peer a.from
      by true so k f = subst (λ (x : Asked). Else peer x.from)
          (sym (same_asked_is a w.asked (and_parts (same_asked a w.asked) (nat_le w.delay (at - w.at)) so).0)) h.0
      by false so k f = f k

  without_apart : (at : ℕ) (a : Asked) (ws : List Waiting) → Each ElseWaits ws
      → Each ElseWaits (without_waiting at a ws)
  without_apart at a [] h = tt
  without_apart at a (w ∷ ws) h = by (is_of at a w) (without_apart at a ws h.1)
    where
      by : (b : Bool) → Each ElseWaits (without_waiting at a ws)
          → Each ElseWaits (cond b ws (w ∷ without_waiting at a ws))
      by true k = h.1
      by false k = (h.0, k)

  -- what is asked of the exchanges

  deferred_apart : (o : Option ℕ) (place : Bool) (at : ℕ) (a : Asked) → Else peer a.from
      → Each (AboutElse peer) (deferral_by o place at a)
  deferred_apart None place at a e = tt
  deferred_apart (Some delay) place at a e = (e, tt)

  deferral_apart : (s : Own) (a : Asked) (q : Question) → Else peer a.from → Each (AboutElse peer) (deferral s a q)
  deferral_apart s a q e =
      deferred_apart (delay_for a.kind q.path s.delays) (may_defer s.exchanges.deferred) s.clock a e

  readies_apart : (at n : ℕ) (os : List Observer) → Each (AboutElse peer) (readies at n os)
  readies_apart at n [] = tt
  readies_apart at zero (o ∷ os) = (tt, tt)
  readies_apart at (suc n) (o ∷ os) = each_join (AboutElse peer) (readies at n os) (E.Ready at o.to false ∷ [])
      (readies_apart at n os) (tt, tt)

  refusing_apart : (a : Asked) (response : Option ℕ) (below : L.Answer) → Else peer a.from
      → Each (AboutElse peer) (refusing a response below)
  refusing_apart a None below e = tt
  refusing_apart a (Some code) below e = (e, tt)

  module _ (limits : Limits) (szx : ℕ) (setup : Setup) (t : List Call) where
    abbrev own : Own
    own = own_of limits szx t

    abbrev OnWith : Call → Type 0
    OnWith c = OwnApart (own_of limits szx (c ∷ t)) × Each (AboutElse peer) (lower own c)

    -- whose request it is that comes with a datagram
    from_else : (from : Endpoint) (up : L.Answer) (p : Asked × Message) → Some p ≡ P.handed_up from up
        → Else peer from → Else peer p.0.from
    from_else from up p is e =
        let k = came_by from up p.0 p.1 is in
        subst (Else peer) (sym (ap (λ (a : Asked). a.from) k.asked_is)) e

    -- a datagram
    module _ (now : ℕ) (from : Endpoint) (bytes : List ℕ) (w : ℕ) (up : L.Answer) (below : L.Answer) where
      abbrev first : Option (Asked × Message) → E.Call
      first c = incoming own now from bytes up c

      abbrev stage : Option (Asked × Message) → Own
      stage c = heard own now (first c)

      heard_apart : (c : Option (Asked × Message)) → OwnApart own → Others (stage c).observers
      heard_apart c h =
          let e : Option Ended = P.reset_by from up own.exchanges.separate in
          rejected_apart (max own.clock now) (unmatched_by from up) (unless_ended e own.observers)
          (ended_apart e own.observers h.observers)

      fed : (c : Option (Asked × Message)) (h : Handling) → Came (stage c) c h → Else peer from
          → ((p : Asked × Message) → c ≡ Some p → Else peer p.0.from) → OwnApart own
          → OnWith (Feeds now from bytes w up c h below)
      fed c h nobody e f k = (record { observers = heard_apart None k; waiting = k.waiting }, (e, tt))
      fed c h (ignored p is) e f k = (record { observers = heard_apart (Some p) k; waiting = k.waiting }, (e, tt))
      fed c h (replied p r) e f k =
          (record { observers = heard_apart (Some p) k; waiting = k.waiting }, (f p refl, (e, tt)))
      fed c h (served p q reply left serves unplaced) e f k =
          let s : Own = stage (Some p) in (
            record {
              observers = served_apart s.clock s.store p.0 q reply left s.observers (f p refl) (heard_apart (Some p) k);
              waiting = k.waiting;
            },
            (
              f p refl,
              each_join (AboutElse peer) (deferral s p.0 q) (first (Some p) ∷ []) (deferral_apart s p.0 q (f p refl))
                  (e, tt),
            ),
          )
      fed c h (waits p q delay has place) e f k =
          let s : Own = stage (Some p) in (
            record {
              observers = heard_apart (Some p) k;
              waiting = each_with ElseWaits own.waiting
                  (record { asked = p.0; at = s.clock; delay = delay; question = q }) k.waiting (f p refl);
            },
            each_join (AboutElse peer) (deferral s p.0 q) (first (Some p) ∷ []) (deferral_apart s p.0 q (f p refl))
                (e, tt),
          )

    -- time passes
    module _ (now w : ℕ) (below : L.Answer) (room : Bool) (passed id : ℕ) (answer : Bool) where
      abbrev turn : Due → Own
      turn d = heard own now (ticking own now below room d)

      turn_apart : (d : Due) → OwnApart own → Others (turn d).observers
      turn_apart d h = ended_apart (P.failed_by below own.exchanges.separate) own.observers h.observers

      ticked : (d : Due) (h : Handling) → Turned (turn d) passed d h → OwnApart own
          → OnWith (Ticks now w below room d passed h id answer)
      ticked d h copied k = (record { observers = turn_apart due.Copied k; waiting = k.waiting }, (tt, tt))
      ticked d h expired k = (record { observers = turn_apart due.Expired k; waiting = k.waiting }, (tt, tt))
      ticked d h (lost a none) k = (
        record {
          observers = turn_apart (due.Ready a) k;
          waiting = without_apart (max own.clock now) a own.waiting k.waiting;
        },
        (tt, tt),
      )
      ticked d h (responded a q reply left asks serves) k =
          let s : Own = turn (due.Ready a) in
          let e = asked_else s.clock a own.waiting q k.waiting asks in (
            record {
              observers = served_apart s.clock s.store a q reply left s.observers e (turn_apart (due.Ready a) k);
              waiting = without_apart (max own.clock now) a own.waiting k.waiting;
            },
            (e, (tt, tt)),
          )
      ticked d h (rests none) k =
          let s : Own = turn due.Idle in (
            record { observers = turn_apart due.Idle k; waiting = k.waiting },
            each_join (AboutElse peer) (readies s.clock passed (marked s.observers))
                (ticking own now below room due.Idle ∷ []) (readies_apart s.clock passed (marked s.observers)) (tt, tt),
          )
      ticked d h (noticed o reply found is) k =
          let s : Own = turn due.Idle in
          let os = turn_apart due.Idle k in
          let there = marked_there s.observers o (behind_there passed (marked s.observers) o found) in
          let e : Else peer o.to = each_there ElseTo s.observers o os there.0 in
          let note : E.Call = notifies_by (by_plain s o) s.clock o (notification s.store o reply) w id in (
            record {
              observers = notified_apart (by_plain s o) s.clock id (s.store.holds o.path) o s.observers os;
              waiting = k.waiting;
            },
            (
              in_either (AboutElse peer) (by_plain s o) s.clock o (notification s.store o reply) w id e e,
              each_join (AboutElse peer) (readies s.clock passed (marked s.observers))
                  (ticking own now below room due.Idle ∷ []) (readies_apart s.clock passed (marked s.observers))
                  (tt, tt),
            ),
          )

    pub call_apart : (c : Call) → ServerLaw limits szx setup (c ∷ t) → HearsElse peer c → OwnApart own → OnWith c
    call_apart (Sets now path format body answer left) law e k = (
      record {
        observers = marked_apart (max own.clock now) path own.store left own.observers k.observers;
        waiting = k.waiting;
      },
      tt,
    )
    call_apart (Removes now path answer left) law e k = (
      record {
        observers = marked_apart (max own.clock now) path own.store left own.observers k.observers;
        waiting = k.waiting;
      },
      tt,
    )
    call_apart (Delays path ms answer) law e k = (record { observers = k.observers; waiting = k.waiting }, tt)
    call_apart (Plains path answer) law e k = (record { observers = k.observers; waiting = k.waiting }, tt)
    call_apart (Gets path answer) law e k = (k, tt)
    call_apart (TellsApplied answer) law e k = (k, tt)
    call_apart (NextOut answer) law e k = (record { observers = k.observers; waiting = k.waiting }, (tt, tt))
    call_apart (Forgets other) law e k = (
      record {
        observers = each_kept ElseTo (λ o. not (same_endpoint o.to other)) own.observers k.observers;
        waiting = each_kept ElseWaits (λ w. not (same_endpoint w.asked.from other)) own.waiting k.waiting;
      },
      (tt, tt),
    )
    call_apart (Feeds now from bytes w up c h below) law e k =
        let s : Own = heard own now (incoming own now from bytes up c) in
        let row = first_row setup (answering s c h below) (incoming own now from bytes up c) (lower_of limits szx t)
        law.exchanges in
        fed now from bytes w up below c h (came s c h law.rows.0) e
        (λ p is. from_else from up p (sym is ∙ row) e) k
    call_apart (Refuses now from bytes w code up p response below) law e k =
        let first : E.Call = incoming own now from bytes up (Some p) in
        let row = first_row setup (refusing p.0 response below) first (lower_of limits szx t) law.exchanges in (
          record { observers = k.observers; waiting = k.waiting },
          each_join (AboutElse peer) (refusing p.0 response below) (first ∷ [])
              (refusing_apart p.0 response below (from_else from up p row e)) (e, tt),
        )
    call_apart (Ticks now w below room d passed h id answer) law e k =
        ticked now w below room passed id answer d h
        (turned (heard own now (ticking own now below room d)) passed d h law.rows.0.0) k
