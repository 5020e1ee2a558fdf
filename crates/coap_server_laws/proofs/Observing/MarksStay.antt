-- What is due to an observer stays due until it is notified, registers anew, or its observation ends.
use Rattle.std.proofs.Common.{◌≡◌, ◌⊎◌, inl, inr, ℕ, ◌==◌, ◌||◌, Bool, true, false, Option, Some, None, List, []}
use Rattle.std.proofs.Common.{◌∷◌, refl, ap, ◌∙◌, cond, max, option_map}
use Rattle.coap_types.specs.Path.{same_path}
use Rattle.coap_types.specs.declared.endpoint.Endpoint.{Endpoint}
use Rattle.coap_codec.specs.Message.{Message}
use Rattle.coap_layer.specs.Trace as L
use Rattle.coap_observe.specs.Observers.{Observer, registration, rejected, removed, registered, changed_at, marked_by}
use Rattle.coap_observe.specs.Observers.{noted_to}
use Rattle.coap_observe.specs.Observers.{sent_to, without}
use Rattle.coap_observe.proofs.Facts.Registrations.{registration-changed_at, others_stay}
use Rattle.coap_resource.specs.Content.{Content, Held}
use Rattle.coap_resource.specs.RequestOptions.{block_of, szx_by}
use Rattle.coap_resource.specs.Serves.{Question, Reply}
use Rattle.coap_resource.specs.Limits.{Limits}
use Rattle.coap_exchange.specs.declared.answerer.Asked.{Asked}
use Rattle.coap_exchange.specs.declared.answerer.Due.{Due}
use Rattle.coap_exchange.specs.declared.answerer.Due.TheVariants as due
use Rattle.coap_exchange.specs.declared.answerer.Ended.{Ended}
use Rattle.coap_exchange.specs.AnswererSteps.{unmatched_by}
use Rattle.coap_exchange.specs.AnswererTrace.{Sending}
use Rattle.coap_server.specs.Trace.{Own, Handling, Serves, Notifies, Call, Sets, Removes}
use Rattle.coap_server.specs.Trace.{Feeds, Ticks}
use Rattle.coap_server.specs.Observers.{observes, registers, observers_with, marked_if, unless_ended, unless_rejected}
use Rattle.coap_server.specs.Notifying.{notified}
use Rattle.coap_server.specs.Handling.{incoming, ticking, heard}
use Rattle.coap_server.specs.Law.{ServerRows, own_of}
use Rattle.coap_server_laws.specs.Follows.Marks.{IsDue, TakesMark, notifies, renews, ends, StayDue}
use Rattle.coap_server.specs.Follows.Observes.{is_told, is_forgotten, cancels, ends_in}
use Rattle.coap_server.specs.Follows.Serves.{serving_of}
use Rattle.coap_server.specs.Follows.Tells.{Pair}
use Rattle.coap_server_laws.proofs.Observing.ObservationStays.{is_pair}
use Rattle.coap_server.proofs.Facts.Observing.Outcomes.{never_notifies}
use Rattle.coap_server.proofs.Facts.Observing.ObserverLists.{notified_left}
use Rattle.coap_server_laws.proofs.Observing.RejectedNons.{Rejects, rejects_over}
use Rattle.coap_server.specs.Plain.{by_plain}
use Rattle.coap_server_laws.proofs.Observing.Elsewhere.{elsewhere_either}
use Rattle.coap_observe.specs.Observers.{elsewhere}
use Rattle.coap_server.specs.Trace.{Forgets}

module _ (to : Endpoint) (token : List ℕ) where
  -- a notification is due to it, in this list
  record Due_in (os : List Observer) : Type 0 where
    observer : Observer
    there : registration to token os ≡ Some observer
    marked : observer.marked ≡ true

  abbrev Same : Endpoint → List ℕ → Type 0
  Same by bytes = (by ≡ to) × (bytes ≡ token)

  moved : (os left : List Observer) → registration to token left ≡ registration to token os → Due_in os → Due_in left
  moved os left e d = record { observer = d.observer; there = e ∙ d.there; marked = d.marked }

  removed_on : (by : Endpoint) (bytes : List ℕ) (os : List Observer) → Due_in os
      → Due_in (removed by bytes os) ⊎ Same by bytes
  removed_on by bytes os d = elim (is_pair to token by bytes) [
    | inl p ↦ inr p
    | inr other ↦ inl (moved os (removed by bytes os) (others_stay to token by bytes os other).removed_stay d)
  ]

  marked_on : (at : ℕ) (path : List (List ℕ)) (old left : Content) (os : List Observer) → Due_in os
      → Due_in (marked_if at path old left os)
  marked_on at path old left os d = by (left.tally.version == old.tally.version)
    where
      still : (b c : Bool) → b ≡ true → (b || c) ≡ true
      still b c h = ap (λ z. z || c) h

      by : (b : Bool) → Due_in (cond b os (changed_at at path os))
      by true = d
      by false = record {
        observer = marked_by at path d.observer;
        there = registration-changed_at at path to token os ∙ ap (option_map (marked_by at path)) d.there;
        marked = still d.observer.marked (same_path d.observer.path path) d.marked;
      }

  -- another's registration stays, whatever is sent to this one
  notified_on : (plain : Bool) (at id : ℕ) (held : Option Held) (o : Observer) (os : List Observer) → Due_in os
      → Due_in (notified plain at id held o os) ⊎ Same o.to o.token
  notified_on plain at id held o os d = elim (is_pair to token o.to o.token) [
    | inl p ↦ inr p
    | inr other ↦ (
        let stay = others_stay to token o.to o.token os other in
        let noted : List Observer = noted_to at o.to o.token id os in
        inl (notified_left Due_in plain at id held o os (moved os (removed o.to o.token os) stay.removed_stay d)
        (moved os (sent_to at o.to o.token false noted)
        ((others_stay to token o.to o.token noted other).sent_stay at false ∙ stay.noted_stay at id) d)
        (moved os (sent_to at o.to o.token true os) (stay.sent_stay at true) d)))
  ]

  -- a Reset of the last NON
  rejected_on : (at : ℕ) (r : Option Sending) (os : List Observer) → Due_in os
      → Due_in (unless_rejected at r os) ⊎ Rejects to token at r os
  rejected_on at None os d = inl d
  rejected_on at (Some x) os d = by (rejected at x.to x.id os) refl
    where
      by : (o : Option Observer) → rejected at x.to x.id os ≡ o → Due_in (without o os)
          ⊎ Rejects to token at (Some x) os
      by None is = inl d
      by (Some o) is = elim (removed_on o.to o.token os d) [
        | inl k ↦ inl k
        | inr p ↦ inr (record { reset = x; observer = o; is = refl; whose = is; same = p })
      ]

  -- by a request that is served: it registers this one anew, or cancels it
  served_on : (at : ℕ) (a : Asked) (q : Question) (reply : Reply) (os : List Observer) → Due_in os
      → Due_in (observers_with at a q reply os)
      ⊎ (((registers a q reply os ≡ true) ⊎ (observes 1 q ≡ true)) × Same a.from a.token)
  served_on at a q reply os d = by (registers a q reply os) refl (observes 1 q) refl
    where
      by : (r : Bool) → registers a q reply os ≡ r → (m : Bool) → observes 1 q ≡ m
          → Due_in (cond r (registered at a.from a.token q.path (szx_by (block_of q.options) q.szx) os)
          (cond m (removed a.from a.token os) os))
          ⊎ (((registers a q reply os ≡ true) ⊎ (observes 1 q ≡ true)) × Same a.from a.token)
      by true is m e = elim (is_pair to token a.from a.token) [
        | inl p ↦ inr (inl is, p)
        | inr other ↦ inl (moved os (registered at a.from a.token q.path (szx_by (block_of q.options) q.szx) os)
            ((others_stay to token a.from a.token os other).registered_stay at q.path
            (szx_by (block_of q.options) q.szx)) d)
      ]
      by false is true e = elim (removed_on a.from a.token os d) [ inl k ↦ inl k | inr p ↦ inr (inr e, p) ]
      by false is false e = inl d

  ended_on : (e : Option Ended) (os : List Observer) → Due_in os
      → Due_in (unless_ended e os) ⊎ ((x : Ended) × (e ≡ Some x) × (x.observe ≡ true) × Same x.to x.token)
  ended_on None os d = inl d
  ended_on (Some x) os d = by x.observe refl
    where
      by : (b : Bool) → x.observe ≡ b → Due_in (cond b (removed x.to x.token os) os)
          ⊎ ((y : Ended) × (Some x ≡ Some y) × (y.observe ≡ true) × Same y.to y.token)
      by true e = elim (removed_on x.to x.token os d) [ inl k ↦ inl k | inr p ↦ inr (x, refl, e, p) ]
      by false e = inl d

  module _ (limits : Limits) (szx : ℕ) where
    abbrev own : List Call → Own
    own t = own_of limits szx t

    abbrev On : List Call → Call → List Observer → Type 0
    On t c os = Due_in os ⊎ TakesMark limits szx to token t c

    told_on : (t : List Call) (c : Call) (e : Option Ended) → ends_in (own t) c ≡ e → (os : List Observer) → Due_in os
        → On t c (unless_ended e os)
    told_on t c e is os d = elim (ended_on e os d)
        [ inl k ↦ inl k | inr k ↦ inr (ends (is_told k.0 (is ∙ k.1) k.2 k.3.0 k.3.1)) ]

    pair_is : (a : Asked) → Same a.from a.token
        → ◌≡◌ {A = Pair} (record { to = a.from; token = a.token }) (record { to = to; token = token })
    pair_is a p = ap (λ x. record { to = x; token = a.token }) p.0 ∙ ap (λ x. record { to = to; token = x }) p.1

    came_on : (t : List Call) (now : ℕ) (from : Endpoint) (bytes : List ℕ) (w : ℕ) (up : L.Answer)
        (p : Asked × Message) (q : Question) (reply : Reply) (left : Content) (below : L.Answer)
        → Due_in (heard (own t) now (incoming (own t) now from bytes up (Some p))).observers
        → On t (Feeds now from bytes w up (Some p) (Serves q reply left) below)
        (own (Feeds now from bytes w up (Some p) (Serves q reply left) below ∷ t)).observers
    came_on t now from bytes w up p q reply left below d =
        let s : Own = heard (own t) now (incoming (own t) now from bytes up (Some p)) in
        elim (served_on s.clock p.0 q reply s.observers d) [
          | inl k ↦ inl (marked_on s.clock q.path s.store left (observers_with s.clock p.0 q reply s.observers) k)
          | inr k ↦ elim k.0 [
            | inl so ↦ inr (renews (ap (λ b. cond b (Some (record { to = p.0.from; token = p.0.token })) None) so
                ∙ ap (λ x. Some x) (pair_is p.0 k.1)))
            | inr m ↦ inr (ends (cancels (serving_of s p.0 q reply left) refl m k.1.0 k.1.1))
          ]
        ]

    ready_on : (t : List Call) (now w : ℕ) (below : L.Answer) (room : Bool) (a : Asked) (passed : ℕ) (q : Question)
        (reply : Reply) (left : Content) (id : ℕ) (answer : Bool)
        → Due_in (heard (own t) now (ticking (own t) now below room (due.Ready a))).observers
        → On t (Ticks now w below room (due.Ready a) passed (Serves q reply left) id answer)
        (own (Ticks now w below room (due.Ready a) passed (Serves q reply left) id answer ∷ t)).observers
    ready_on t now w below room a passed q reply left id answer d =
        let s : Own = heard (own t) now (ticking (own t) now below room (due.Ready a)) in
        elim (served_on s.clock a q reply s.observers d) [
          | inl k ↦ inl (marked_on s.clock q.path s.store left (observers_with s.clock a q reply s.observers) k)
          | inr k ↦ elim k.0 [
            | inl so ↦ inr (renews (ap (λ b. cond b (Some (record { to = a.from; token = a.token })) None) so
                ∙ ap (λ x. Some x) (pair_is a k.1)))
            | inr m ↦ inr (ends (cancels (serving_of s a q reply left) refl m k.1.0 k.1.1))
          ]
        ]

    notice_on : (t : List Call) (now w : ℕ) (below : L.Answer) (room : Bool) (d : Due) (passed : ℕ) (o : Observer)
        (reply : Reply) (id : ℕ) (answer : Bool) (os : List Observer) → Due_in os
        → On t (Ticks now w below room d passed (Notifies o reply) id answer)
        (notified (by_plain (heard (own t) now (ticking (own t) now below room d)) o) (max (own t).clock now) id
        ((own t).store.holds o.path) o os)
    notice_on t now w below room d passed o reply id answer os k =
        elim (notified_on (by_plain (heard (own t) now (ticking (own t) now below room d)) o) (max (own t).clock now) id
        ((own t).store.holds o.path) o os k) [
          | inl k ↦ inl k
          | inr p ↦ inr (notifies (record { observer = o; reply = reply }) refl p.0 p.1)
        ]

    fed : (t : List Call) (now : ℕ) (from : Endpoint) (bytes : List ℕ) (w : ℕ) (up : L.Answer)
        (came : Option (Asked × Message)) (h : Handling) (below : L.Answer)
        → ServerRows limits szx (Feeds now from bytes w up came h below ∷ t)
        → Due_in (heard (own t) now (incoming (own t) now from bytes up came)).observers
        → On t (Feeds now from bytes w up came h below) (own (Feeds now from bytes w up came h below ∷ t)).observers
    fed t now from bytes w up None (Notifies o reply) below rows d = let k = rows.0 in absurd (cc k)
    fed t now from bytes w up (Some p) (Serves q reply left) below rows d =
        came_on t now from bytes w up p q reply left below d
    fed t now from bytes w up (Some p) (Notifies o reply) below rows d = absurd
        (never_notifies (heard (own t) now (incoming (own t) now from bytes up (Some p))) p o reply rows.0)
    fed t now from bytes w up _ _ below rows d = inl d

    ticked : (t : List Call) (now w : ℕ) (below : L.Answer) (room : Bool) (d : Due) (passed : ℕ) (h : Handling)
        (id : ℕ) (answer : Bool)
        → Due_in (heard (own t) now (ticking (own t) now below room d)).observers
        → On t (Ticks now w below room d passed h id answer)
        (own (Ticks now w below room d passed h id answer ∷ t)).observers
    ticked t now w below room (due.Ready a) passed (Serves q reply left) id answer k =
        ready_on t now w below room a passed q reply left id answer k
    ticked t now w below room d passed (Notifies o reply) id answer k =
        notice_on t now w below room d passed o reply id answer
        (heard (own t) now (ticking (own t) now below room d)).observers k
    ticked t now w below room _ passed _ id answer k = inl k

    on : (t : List Call) (c : Call) → ServerRows limits szx (c ∷ t) → Due_in (own t).observers
        → On t c (own (c ∷ t)).observers
    on t (Feeds now from bytes w up came h below) rows d =
        elim (told_on t (Feeds now from bytes w up came h below) _ refl (own t).observers d) [
          | inl k ↦ elim (rejected_on (max (own t).clock now) (unmatched_by from up) _ k) [
            | inl z ↦ fed t now from bytes w up came h below rows z
            | inr r ↦ inr (ends (rejects_over limits szx t now from bytes w up came h below to token r))
          ]
          | inr over ↦ inr over
        ]
    on t (Ticks now w below room d passed h id answer) rows k =
        elim (told_on t (Ticks now w below room d passed h id answer) _ refl (own t).observers k) [
          | inl k ↦ ticked t now w below room d passed h id answer k
          | inr over ↦ inr over
        ]
    on t (Sets now path format body answer left) rows d = inl (marked_on (max (own t).clock now) path (own t).store left
        (own t).observers d)
    on t (Removes now path answer left) rows d = inl (marked_on (max (own t).clock now) path (own t).store left
        (own t).observers d)
    on t (Forgets peer) rows d =
        elim (elsewhere_either peer to token (own t).observers) [
          | inl e ↦ inl (moved (own t).observers (elsewhere peer (own t).observers) e d)
          | inr gone ↦ inr (ends (is_forgotten (ap (λ p. Some p) gone.0)))
        ]
    on t _ rows d = inl d

module _ (limits : Limits) (szx : ℕ) where
  here : (t : List Call) (c : Call) → ServerRows limits szx (c ∷ t) → (to : Endpoint) (token : List ℕ)
      → IsDue limits szx to token t → IsDue limits szx to token (c ∷ t) ⊎ TakesMark limits szx to token t c
  here t c rows to token d =
      elim (on to token limits szx t c rows (record { observer = d.observer; there = d.there; marked = d.marked })) [
        | inl k ↦ inl (record { observer = k.observer; there = k.there; marked = k.marked })
        | inr k ↦ inr k
      ]

  pub stay_due : (t : List Call) → ServerRows limits szx t → StayDue limits szx t
  stay_due [] rows = tt
  stay_due (c ∷ t) rows = (λ to token d. here t c rows to token d, stay_due t rows.1)
