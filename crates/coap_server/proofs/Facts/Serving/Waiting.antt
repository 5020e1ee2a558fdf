-- What waits at a server is what its exchanges defer, and what they say is ready is served then.
use Rattle.std.proofs.Common.{◌≡◌, ◌≤◌, ℕ, ◌-◌, max, nat_le, Bool, true, false, ◌&&◌, not, Option, Some, None, zero}
use Rattle.std.proofs.Common.{suc, List, [], ◌∷◌, ◌++◌, map, refl, ap, sym, subst, ◌∙◌, cond, arith}
use Rattle.std.proofs.lemmas.List.{map-append}
use Rattle.coap_types.specs.declared.endpoint.Endpoint.{Endpoint}
use Rattle.coap_codec.specs.Message.{Message}
use Rattle.coap_layer.specs.Trace as L
use Rattle.coap_resource.specs.Serves.{Question}
use Rattle.coap_exchange.specs.declared.answerer.Asked.{Asked}
use Rattle.coap_exchange.specs.declared.answerer.Due.{Due}
use Rattle.coap_exchange.specs.declared.answerer.Due.TheVariants as due
use Rattle.coap_exchange.specs.declared.separate.Deferred.{Deferred}
use Rattle.coap_exchange.specs.declared.separate.Separate.{Separate}
use Rattle.coap_exchange.specs.AnswererTrace as E
use Rattle.coap_exchange.specs.AnswererSteps as P
use Rattle.coap_exchange.specs.AnswererSteps.{is_ready, first_ready, without_ready, is_waited_for}
use Rattle.coap_exchange.specs.AnswererFollows.{same_asked}
use Rattle.coap_exchange.proofs.Facts.ServerSide.{same_asked_self}
use Rattle.std.proofs.lemmas.Bool.{and_parts}
use Rattle.coap_layer.specs.declared.setup.Setup.{Setup}
use Rattle.coap_observe.specs.Observers.{Observer}
use Rattle.coap_resource.specs.Limits.{Limits}
use Rattle.coap_server.specs.Trace.{Waiting, Own, Handling, Serves, Notifies}
use Rattle.coap_server.specs.Trace.{Call, Sets, Removes, Delays, Plains, Feeds, Refuses, Ticks, NextOut, Gets}
use Rattle.coap_server.specs.Trace.{TellsApplied, Forgets}
use Rattle.coap_server.specs.Serving.{IsServed}
use Rattle.coap_server.specs.Deferring.{AnswersWaiting, delay_for, deferral, deferral_by}
use Rattle.coap_server.specs.Deferring.{is_of}
use Rattle.coap_server.specs.Deferring.{question_of, waiting_elsewhere, without_waiting}
use Rattle.coap_types.specs.SameEndpoint.{same_endpoint}
use Rattle.coap_server.specs.Notifying.{marked, notification, readies}
use Rattle.coap_server.specs.Handling.{incoming, ticking, heard}
use Rattle.coap_server.specs.Asks.{responding}
use Rattle.coap_server.specs.Steps.{exchanges_after}
use Rattle.coap_server.specs.Law.{ServerLaw, own_of, lower_of}
use Rattle.coap_server.specs.Follows.Serves.{Serving, serving, serving_of}
use Rattle.coap_exchange.specs.AnswererSteps.{may_defer}
use Rattle.coap_server.proofs.Facts.Serving.FoundReady.{FoundReady, found_ready}
use Rattle.coap_server.proofs.Facts.Serving.Brought.{server_back}
use Rattle.coap_server.proofs.Facts.Observing.Outcomes.{Came, came, is_placed, served as was_served, waits}
use Rattle.coap_server.proofs.Facts.Exact.FirstRow.{first_row}
use Rattle.coap_server.proofs.Facts.Exact.Leads.{exchanges_kept}
use Rattle.coap_server.specs.Follows.Waits.{deferred_as, ready_in, WaitsAsDeferred, ReadyAreServed}
use Rattle.coap_server.proofs.Facts.Serving.SameAsked.{same_asked_is}
use Rattle.coap_server.specs.Plain.{by_plain}
use Rattle.coap_server.proofs.Facts.Calls.NotifiesBy.{in_either}

-- what is ready, of what waits

all_true : (a b : Bool) → a ≡ true → b ≡ true → (a && b) ≡ true
all_true a b h k = cc (h, k)

first_is_ready : (at : ℕ) (xs : List Separate) (ds : List Deferred) (d : Deferred) → first_ready at xs ds ≡ Some d
    → is_ready at xs d ≡ true
first_is_ready at xs [] d h = absurd (cc h)
first_is_ready at xs (e ∷ ds) d h = by (is_ready at xs e) refl h (first_is_ready at xs ds d)
  where
    by : (b : Bool) → is_ready at xs e ≡ b → cond b (Some e) (first_ready at xs ds) ≡ Some d
        → (first_ready at xs ds ≡ Some d → is_ready at xs d ≡ true) → is_ready at xs d ≡ true
    by true k is f = let same : e ≡ d = cc is in subst (λ x. is_ready at xs x ≡ true) same k
    by false k is f = f is

module _ (at : ℕ) (xs : List Separate) (a : Asked) where
  -- the request that is ready is asked for by the store, and taken out
  pub record IsTaken (ws : List Waiting) : Type 0 where
    pub question : Question
    pub asks : question_of at a ws ≡ Some question
    pub left : map deferred_as (without_waiting at a ws) ≡ without_ready at xs (map deferred_as ws)

  pub taken : (ws : List Waiting) (d : Deferred) → first_ready at xs (map deferred_as ws) ≡ Some d → d.asked ≡ a
      → IsTaken ws
  taken [] d h same = absurd (cc h)
  taken (w ∷ ws) d h same = by (is_ready at xs (deferred_as w)) (is_of at a w) refl refl h (λ k. taken ws d k same)
    where
      rest : List Deferred
      rest = map deferred_as ws

      by : (r o : Bool) → is_ready at xs (deferred_as w) ≡ r → is_of at a w ≡ o
          → cond r (Some (deferred_as w)) (first_ready at xs (map deferred_as ws)) ≡ Some d
          → (first_ready at xs (map deferred_as ws) ≡ Some d → IsTaken ws) → IsTaken (w ∷ ws)
      by true true ready of is f = record {
        question = w.question;
        asks = ap (λ b. cond b (Some w.question) (question_of at a ws)) of;
        left = ap (λ b. map deferred_as (cond b ws (w ∷ without_waiting at a ws))) of
            ∙ sym (ap (λ b. cond b (map deferred_as ws) (deferred_as w ∷ without_ready at xs (map deferred_as ws)))
            ready);
      }
      by true false ready of is f =
          let one : deferred_as w ≡ d = cc is in
          let asked_is : w.asked ≡ a = ap (λ (x : Deferred). x.asked) one ∙ same in
          let passed = (and_parts (nat_le w.delay (at - w.at)) (not (is_waited_for w.asked.from xs)) ready).0 in
          let so : is_of at a w ≡ true = all_true _ _
          (subst (λ x. same_asked a x ≡ true) (sym asked_is) (same_asked_self a)) passed in
          absurd (cc (of, so))
      by false true ready of is f =
          let k = and_parts (same_asked a w.asked) (nat_le w.delay (at - w.at)) of in
          let asked_is : d.asked ≡ w.asked = same ∙ same_asked_is a w.asked k.0 in
          let idle = (and_parts (nat_le d.delay (at - d.at.0)) (not (is_waited_for d.asked.from xs))
          (first_is_ready at xs rest d is)).1 in
          let so : is_ready at xs (deferred_as w) ≡ true =
          all_true _ _ k.1 (subst (λ (x : Asked). not (is_waited_for x.from xs) ≡ true) asked_is idle) in
          absurd (cc (ready, so))
      by false false ready of is f = let k = f is in record {
        question = k.question;
        asks = ap (λ b. cond b (Some w.question) (question_of at a ws)) of ∙ k.asks;
        left = ap (λ b. map deferred_as (cond b ws (w ∷ without_waiting at a ws))) of
            ∙ (ap (λ z. deferred_as w ∷ z) k.left ∙ sym
            (ap (λ b. cond b (map deferred_as ws) (deferred_as w ∷ without_ready at xs (map deferred_as ws)))
            ready));
      }

-- what is asked of the exchanges for a deferral

not_placed : (o : Option ℕ) (place : Bool) (at : ℕ) (a : Asked) (s : E.Own) → is_placed o place ≡ false
    → (exchanges_after s (deferral_by o place at a)).deferred ≡ s.deferred
not_placed None place at a s h = refl
not_placed (Some d) true at a s h = absurd (cc h)
not_placed (Some d) false at a s h = refl

deferring_clock : (o : Option ℕ) (place : Bool) (at : ℕ) (a : Asked) (s : E.Own)
    → (exchanges_after s (deferral_by o place at a)).clock ≤ max s.clock at
deferring_clock None place at a s = omega arith
deferring_clock (Some d) place at a s = omega arith

joined_after : (xs : List E.Call) (c : E.Call) (s : E.Own)
    → exchanges_after s (xs ++ c ∷ []) ≡ exchanges_after (P.after s c) xs
joined_after [] c s = refl
joined_after (x ∷ xs) c s = ap (λ z. P.after z x) (joined_after xs c s)

readies_same : (at n : ℕ) (os : List Observer) (s : E.Own)
    → ((exchanges_after s (readies at n os)).deferred ≡ s.deferred)
    × ((exchanges_after s (readies at n os)).clock ≤ max s.clock at)
readies_same at n [] s = (refl, omega arith)
readies_same at zero (o ∷ os) s = (refl, omega arith)
readies_same at (suc n) (o ∷ os) s =
    let k = readies_same at n os (P.after s (E.Ready at o.to false)) in
    let e = joined_after (readies at n os) (E.Ready at o.to false) s in (
      ap (λ (z : E.Own). z.deferred) e ∙ k.0,
      (let c = ap (λ (z : E.Own). z.clock) e in let l =
          k.1 in omega (arith, c, l)),
    )

-- where a peer is forgotten
waits_elsewhere : (peer : Endpoint) (ws : List Waiting)
    → map deferred_as (waiting_elsewhere peer ws) ≡ P.deferred_elsewhere peer (map deferred_as ws)
waits_elsewhere peer [] = refl
waits_elsewhere peer (w ∷ ws) = by (not (same_endpoint w.asked.from peer)) (waits_elsewhere peer ws)
  where
    by : (b : Bool) → map deferred_as (waiting_elsewhere peer ws) ≡ P.deferred_elsewhere peer (map deferred_as ws)
        → map deferred_as (cond b (w ∷ waiting_elsewhere peer ws) (waiting_elsewhere peer ws))
        ≡ cond b (deferred_as w ∷ P.deferred_elsewhere peer (map deferred_as ws))
        (P.deferred_elsewhere peer (map deferred_as ws))
    by true e = ap (λ ds. deferred_as w ∷ ds) e
    by false e = e

module _ (limits : Limits) (szx : ℕ) (setup : Setup) where
  abbrev own : List Call → Own
  own t = own_of limits szx t

  -- the clock of the exchanges is not ahead
  pub record Mirrors (t : List Call) : Type 0 where
    pub clock : (own t).exchanges.clock ≤ (own t).clock
    pub lists : map deferred_as (own t).waiting ≡ (own t).exchanges.deferred

  module _ (t : List Call) (m : Mirrors t) where
    fed : (now : ℕ) (from : Endpoint) (bytes : List ℕ) (w : ℕ) (up : L.Answer) (c : Option (Asked × Message))
        (h : Handling) (below : L.Answer) → Came (heard (own t) now (incoming (own t) now from bytes up c)) c h
        → Mirrors (Feeds now from bytes w up c h below ∷ t)
    fed now from bytes w up c h below (was_served p q reply left k unplaced) =
        let s : Own = heard (own t) now (incoming (own t) now from bytes up (Some p)) in
        let c = deferring_clock (delay_for p.0.kind q.path s.delays)
        (may_defer s.exchanges.deferred) s.clock p.0 s.exchanges in
        let k = m.clock in
        record {
          clock = omega (arith, k, c);
          lists = m.lists ∙ sym (not_placed (delay_for p.0.kind q.path s.delays)
              (may_defer s.exchanges.deferred) s.clock p.0 s.exchanges unplaced);
        }
    fed now from bytes w up c h below (waits p q delay has place) =
        let s : Own = heard (own t) now (incoming (own t) now from bytes up (Some p)) in
        let k = m.clock in
        let at : ℕ = max (own t).clock now in
        let same : at ≡ max (max (own t).exchanges.clock at) at = omega (arith, k) in
        let asks : deferral s p.0 q ≡ E.Defers at p.0 delay true ∷ [] =
        ap (λ z. deferral_by z (may_defer s.exchanges.deferred) at p.0) has
        ∙ ap (λ z. deferral_by (Some delay) z at p.0) place in
        let after = ap (exchanges_after s.exchanges) asks in
        record {
          clock = (let c = ap (λ (z : E.Own). z.clock) after in omega (arith, k, c));
          lists = map-append deferred_as (own t).waiting
              (record { asked = p.0; at = at; delay = delay; question = q } ∷ [])
              ∙ (ap (λ ds. ds ++ record { asked = p.0; at = record { 0 = at }; delay = delay } ∷ []) m.lists
              ∙ (ap (λ n. (own t).exchanges.deferred ++ record { asked = p.0; at = record { 0 = n }; delay = delay } ∷
              []) same ∙ sym (ap (λ (z : E.Own). z.deferred) after)));
        }
    fed now from bytes w up c h below _ = record { clock = let k = m.clock in omega (arith, k); lists = m.lists }

    -- a request that is ready
    module _ (now w : ℕ) (below : L.Answer) (room : Bool) (a : Asked) (passed : ℕ) (h : Handling) (id : ℕ)
        (answer : Bool) (law : ServerLaw limits szx setup (Ticks now w below room (due.Ready a) passed h id answer ∷ t))
      where
        abbrev at : ℕ
        at = max (own t).clock now

        abbrev kept : E.Own
        kept = (own t).exchanges

        same_moment : max (own t).exchanges.clock at ≡ at
        same_moment = let k = m.clock in omega (arith, k)

        found : FoundReady below (P.ready_at (own t).exchanges at) a
        found =
            let first : E.Call = ticking (own t) now below room (due.Ready a) in
            let row = first_row setup (responding (heard (own t) now first) (due.Ready a) passed h w id) first
            (lower_of limits szx t) law.exchanges in
            found_ready below (P.ready_at (own t).exchanges at) room a
            (subst (λ (z : E.Own). due.Ready a ≡ P.due_of below (P.ready_at z at) room)
            (sym (exchanges_kept limits szx t)) row)

        is_taken : IsTaken at (own t).exchanges.separate a (own t).waiting
        is_taken =
            taken at kept.separate a (own t).waiting found.deferred
            (ap (λ ds. first_ready at kept.separate ds) m.lists
            ∙ (ap (λ n. first_ready n kept.separate kept.deferred) (sym same_moment) ∙ found.first)) found.asked

        served : IsServed (own t).store at is_taken.question h
        served = subst (λ o. AnswersWaiting o (own t).store at h) is_taken.asks law.rows.0.0

    ready : (now w : ℕ) (below : L.Answer) (room : Bool) (a : Asked) (passed : ℕ) (h : Handling) (id : ℕ)
        (answer : Bool) → ServerLaw limits szx setup (Ticks now w below room (due.Ready a) passed h id answer ∷ t)
        → Mirrors (Ticks now w below room (due.Ready a) passed h id answer ∷ t)
        × ((x : Serving) × (serving (own t) (Ticks now w below room (due.Ready a) passed h id answer) ≡ Some x)
        × (x.asked ≡ a))
    ready now w below room a passed (Serves q reply left) id answer law =
        let n : ℕ = max (own t).clock now in
        let e : E.Own = (own t).exchanges in
        let k = is_taken now w below room a passed (Serves q reply left) id answer law in
        let f = found now w below room a passed (Serves q reply left) id answer law in
        let clock = m.clock in
        let twice : n ≡ max (max e.clock n) n = omega (arith, clock) in (
          record {
            clock = omega (arith, clock);
            lists = k.left
                ∙ (ap (λ ds. without_ready n e.separate ds) m.lists
                ∙ (ap (λ i. without_ready i e.separate e.deferred) twice
                ∙ ap (λ b. without_ready (max (max e.clock n) n) (P.separate_unless b e.separate) e.deferred)
                (sym f.idle)));
          },
          (serving_of (heard (own t) now (ticking (own t) now below room (due.Ready a))) a q reply left, refl, refl),
        )
    ready now w below room a passed h id answer law =
        let k = (served now w below room a passed h id answer law).is in absurd (cc k)

    idled : (now w : ℕ) (below : L.Answer) (room : Bool) (passed : ℕ) (h : Handling) (id : ℕ) (answer : Bool)
        → Mirrors (Ticks now w below room due.Idle passed h id answer ∷ t)
    idled now w below room passed h id answer = by h
      where
        s : Own
        s = heard (own t) now (ticking (own t) now below room due.Idle)

        clock : (exchanges_after s.exchanges (readies s.clock passed (marked s.observers))).clock ≤ max
            (own t).clock now
        clock = let k = m.clock in let r = (readies_same s.clock passed (marked s.observers) s.exchanges).1 in omega
            (arith, k, r)

        lists : map deferred_as (own t).waiting ≡ (exchanges_after s.exchanges
            (readies s.clock passed (marked s.observers))).deferred
        lists = m.lists ∙ sym (readies_same s.clock passed (marked s.observers) s.exchanges).0

        by : (h : Handling) → Mirrors (Ticks now w below room due.Idle passed h id answer ∷ t)
        by (Notifies o reply) =
            let es : E.Own = exchanges_after s.exchanges (readies s.clock passed (marked s.observers)) in
            let k = in_either (λ e. (max (P.after es e).clock s.clock ≡ max es.clock s.clock)
            × ((P.after es e).deferred ≡ es.deferred)) (by_plain s o) s.clock o (notification s.store o reply) w id
            (omega arith, refl) (omega arith, refl) in
            let same = k.0 in
            record { clock = omega (arith, clock, same); lists = lists ∙ sym k.1 }
        by _ = record { clock = clock; lists = lists }

    ticked : (now w : ℕ) (below : L.Answer) (room : Bool) (d : Due) (passed : ℕ) (h : Handling) (id : ℕ) (answer : Bool)
        → ServerLaw limits szx setup (Ticks now w below room d passed h id answer ∷ t)
        → Mirrors (Ticks now w below room d passed h id answer ∷ t)
    ticked now w below room (due.Ready a) passed h id answer law = (ready now w below room a passed h id answer law).0
    ticked now w below room due.Idle passed h id answer law = idled now w below room passed h id answer
    ticked now w below room _ passed h id answer law = record {
      clock = let k = m.clock in omega (arith, k);
      lists
          = m.lists;
    }

    mirrored : (c : Call) → ServerLaw limits szx setup (c ∷ t) → Mirrors (c ∷ t)
    mirrored (Sets now path format body answer left) law =
        record { clock = let k = m.clock in omega (arith, k); lists = m.lists }
    mirrored (Removes now path answer left) law =
        record { clock = let k = m.clock in omega (arith, k); lists = m.lists }
    mirrored (Feeds now from bytes w up c h below) law =
        fed now from bytes w up c h below (came (heard (own t) now (incoming (own t) now from bytes up c)) c h
        law.rows.0)
    mirrored (Refuses now from bytes w code up p None below) law =
        record { clock = let k = m.clock in omega (arith, k); lists = m.lists }
    mirrored (Refuses now from bytes w code up p (Some n) below) law =
        record { clock = let k = m.clock in omega (arith, k); lists = m.lists }
    mirrored (Ticks now w below room d passed h id answer) law = ticked now w below room d passed h id answer law
    mirrored (Forgets peer) law = record {
      clock = m.clock;
      lists = waits_elsewhere peer (own t).waiting ∙ ap (λ ds. P.deferred_elsewhere peer ds) m.lists;
    }
    mirrored _ law = record { clock = m.clock; lists = m.lists }

  pub mirrors : (t : List Call) → ServerLaw limits szx setup t → Mirrors t
  mirrors [] law = record { clock = omega arith; lists = refl }
  mirrors (c ∷ t) law = mirrored t (mirrors t (server_back limits szx setup c t law)) c law

  pub waits_as_deferred : (t : List Call) → ServerLaw limits szx setup t → WaitsAsDeferred limits szx t
  waits_as_deferred t law = (mirrors t law).lists ∙ ap (λ (z : E.Own). z.deferred) (exchanges_kept limits szx t)

  pub ready_are_served : (t : List Call) → ServerLaw limits szx setup t → ReadyAreServed limits szx t
  ready_are_served [] law = tt
  ready_are_served (c ∷ t) law =
      let back = server_back limits szx setup c t law in
      (λ a is. here c (mirrors t back) law a is, ready_are_served t back)
    where
      here : (c : Call) → Mirrors t → ServerLaw limits szx setup (c ∷ t) → (a : Asked) → ready_in c ≡ Some a
          → (x : Serving) × (serving (own t) c ≡ Some x) × (x.asked ≡ a)
      here (Ticks now w below room (due.Ready b) passed h id answer) m law a is =
          let same : b ≡ a = cc is in
          let k = (ready t m now w below room b passed h id answer law).1 in
          (k.0, k.1, k.2 ∙ same)
      here (Ticks now w below room due.Idle passed h id answer) m law a is = absurd (cc is)
      here (Ticks now w below room due.Copied passed h id answer) m law a is = absurd (cc is)
      here (Ticks now w below room due.Expired passed h id answer) m law a is = absurd (cc is)
      here (Sets now path format body answer left) m law a is = absurd (cc is)
      here (Removes now path answer left) m law a is = absurd (cc is)
      here (Delays path ms answer) m law a is = absurd (cc is)
      here (Plains path answer) m law a is = absurd (cc is)
      here (Gets path answer) m law a is = absurd (cc is)
      here (TellsApplied answer) m law a is = absurd (cc is)
      here (Feeds now from bytes w up came h below) m law a is = absurd (cc is)
      here (Refuses now from bytes w code up p response below) m law a is = absurd (cc is)
      here (NextOut answer) m law a is = absurd (cc is)
      here (Forgets peer) m law a is = absurd (cc is)
