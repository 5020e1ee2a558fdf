-- An observation stays until it is told to have ended, cancelled, its path is gone, or its endpoint is forgotten.
use Rattle.std.proofs.Common.{◌≡◌, ◌⊎◌, inl, inr, ℕ, ◌==◌, Bool, true, false, Option, Some, None, List, [], ◌∷◌}
use Rattle.std.proofs.Common.{refl, ap, sym, subst, ◌∙◌, cond, max, option_map}
use Rattle.coap_types.specs.declared.endpoint.Endpoint.{Endpoint}
use Rattle.coap_codec.specs.Message.{Message}
use Rattle.coap_layer.specs.Trace as L
use Rattle.coap_observe.specs.Observers.{Observer, is_of, registration, removed, registered, changed_at, marked_by}
use Rattle.coap_observe.specs.Observers.{begun, sent_to}
use Rattle.coap_observe.specs.Registrations.{IsOther, told_by}
use Rattle.coap_observe.proofs.Facts.Registrations.{is_of-decides, registration-registered, registration-changed_at}
use Rattle.coap_observe.proofs.Facts.Registrations.{registration-sent_to, others_stay}
use Rattle.coap_resource.specs.Content.{Content, Held}
use Rattle.coap_resource.specs.RequestOptions.{block_of, szx_by}
use Rattle.coap_resource.specs.Serves.{Question, Reply}
use Rattle.coap_resource.specs.Limits.{Limits}
use Rattle.coap_exchange.specs.declared.answerer.Asked.{Asked}
use Rattle.coap_exchange.specs.declared.answerer.Due.{Due}
use Rattle.coap_exchange.specs.declared.answerer.Due.TheVariants as due
use Rattle.coap_exchange.specs.declared.answerer.Ended.{Ended}
use Rattle.coap_server.specs.Trace.{Own, Handling, Serves, Notifies, Call}
use Rattle.coap_server.specs.Trace.{Sets}
use Rattle.coap_server.specs.Trace.{Removes, Feeds, Ticks}
use Rattle.coap_server.specs.Observers.{observes, registers, observers_with, marked_if, unless_ended}
use Rattle.coap_server.specs.Notifying.{notified}
use Rattle.coap_server.specs.Serving.{observers_served}
use Rattle.coap_server.specs.Handling.{incoming, ticking, heard}
use Rattle.coap_server.specs.Law.{ServerRows, own_of}
use Rattle.coap_server.specs.Follows.Observes.{Ends, is_told, is_forgotten, cancels, is_gone}
use Rattle.coap_server.specs.Follows.Observes.{ends_in, EndsSo}
use Rattle.coap_server.specs.Follows.Serves.{serving_of}
use Rattle.coap_server_laws.proofs.Observing.ObservationEnds.{told_here}
use Rattle.coap_server.proofs.Facts.Observing.Outcomes.{never_notifies}
use Rattle.coap_server_laws.proofs.Observing.RejectedNons.{Rejects, rejects_over}
use Rattle.coap_server.specs.Plain.{by_plain}
use Rattle.coap_exchange.specs.AnswererSteps.{unmatched_by}
use Rattle.coap_exchange.specs.AnswererTrace.{Sending}
use Rattle.coap_server.specs.Observers.{unless_rejected}
use Rattle.coap_observe.specs.Observers.{noted_to, rejected, without}
use Rattle.coap_observe.proofs.Facts.Registrations.{registration-noted_to}
use Rattle.coap_server_laws.proofs.Observing.Elsewhere.{elsewhere_either}
use Rattle.coap_server.specs.Trace.{Forgets}

abbrev asked_of : Endpoint → List ℕ → Observer
asked_of by bytes = begun 0 by bytes [] 0

-- the same endpoint and token, or another
pub is_pair : (to : Endpoint) (token : List ℕ) (by : Endpoint) (bytes : List ℕ)
    → ((by ≡ to) × (bytes ≡ token)) ⊎ IsOther to token by bytes
is_pair to token by bytes = by_answer (is_of to token (asked_of by bytes)) refl
  where
    by_answer : (b : Bool) → is_of to token (asked_of by bytes) ≡ b
        → ((by ≡ to) × (bytes ≡ token)) ⊎ IsOther to token by bytes
    by_answer true e = inl ((is_of-decides to token (asked_of by bytes)).0 e)
    by_answer false e = inr (λ p. (let k = (is_of-decides to token (asked_of by bytes)).1 (sym p.0, sym p.1) in cc
        (k, e)))

mapped_none : (f : Observer → Observer) (r : Option Observer) → option_map f r ≡ None → r ≡ None
mapped_none f None h = refl
mapped_none f (Some o) h = absurd (cc h)

module _ (to : Endpoint) (token : List ℕ) where
  abbrev None_in : List Observer → Type 0
  None_in os = registration to token os ≡ None

  abbrev Pair : Endpoint → List ℕ → Type 0
  Pair by bytes = (by ≡ to) × (bytes ≡ token)

  removed_back : (by : Endpoint) (bytes : List ℕ) (os : List Observer) → None_in (removed by bytes os)
      → None_in os ⊎ Pair by bytes
  removed_back by bytes os h = elim (is_pair to token by bytes)
      [ inl p ↦ inr p | inr other ↦ inl (sym (others_stay to token by bytes os other).removed_stay ∙ h) ]

  registered_back : (at : ℕ) (by : Endpoint) (bytes : List ℕ) (path : List (List ℕ)) (szx : ℕ) (os : List Observer)
      → None_in (registered at by bytes path szx os) → None_in os
  registered_back at by bytes path szx os h = elim (is_pair to token by bytes) [
    | inl p ↦ (
        let there : registration to token (registered at to token path szx os)
        ≡ None = subst (λ x. registration to token (registered at x token path szx os) ≡ None) p.0
        (subst (λ x. registration to token (registered at by x path szx os) ≡ None) p.1 h) in
        let no = sym (registration-registered at to token path szx os) ∙ there in absurd (cc no))
    | inr other ↦ sym ((others_stay to token by bytes os other).registered_stay at path szx) ∙ h
  ]

  marked_back : (at : ℕ) (path : List (List ℕ)) (old left : Content) (os : List Observer)
      → None_in (marked_if at path old left os)
      → None_in os
  marked_back at path old left os h = by (left.tally.version == old.tally.version) h
    where
      by : (b : Bool) → None_in (cond b os (changed_at at path os)) → None_in os
      by true k = k
      by false k = mapped_none (marked_by at path) (registration to token os)
          (sym (registration-changed_at at path to token os) ∙ k)

  sent_back : (at : ℕ) (by : Endpoint) (bytes : List ℕ) (con : Bool) (os : List Observer)
      → None_in (sent_to at by bytes con os) → None_in os
  sent_back at by bytes con os h = elim (is_pair to token by bytes) [
    | inl p ↦ (
        let there : registration to token (sent_to at to token con os)
        ≡ None = subst (λ x. None_in (sent_to at x token con os)) p.0
        (subst (λ x. None_in (sent_to at by x con os)) p.1 h) in
        mapped_none (told_by at con) (registration to token os)
        (sym (registration-sent_to at to token con os) ∙ there))
    | inr other ↦ sym ((others_stay to token by bytes os other).sent_stay at con) ∙ h
  ]

  noted_back : (at : ℕ) (by : Endpoint) (bytes : List ℕ) (id : ℕ) (os : List Observer)
      → None_in (noted_to at by bytes id os) → None_in os
  noted_back at by bytes id os h = elim (is_pair to token by bytes) [
    | inl p ↦ (
        let there : registration to token (noted_to at to token id os)
        ≡ None = subst (λ x. None_in (noted_to at x token id os)) p.0
        (subst (λ x. None_in (noted_to at by x id os)) p.1 h) in
        mapped_none (λ (o : Observer). record o { noted = Some (record { id = id; at = at }) })
        (registration to token os)
        (sym (registration-noted_to at to token id os) ∙ there))
    | inr other ↦ sym ((others_stay to token by bytes os other).noted_stay at id) ∙ h
  ]

  notified_back : (plain : Bool) (at id : ℕ) (held : Option Held) (o : Observer) (os : List Observer)
      → None_in (notified plain at id held o os) → None_in os ⊎ ((held ≡ None) × Pair o.to o.token)
  notified_back plain at id None o os h = elim (removed_back o.to o.token os h)
      [ inl k ↦ inl k | inr p ↦ inr (refl, p) ]
  notified_back true at id (Some held) o os h =
      inl (noted_back at o.to o.token id os (sent_back at o.to o.token false (noted_to at o.to o.token id os) h))
  notified_back false at id (Some held) o os h = inl (sent_back at o.to o.token true os h)

  rejected_back : (at : ℕ) (r : Option Sending) (os : List Observer) → None_in (unless_rejected at r os)
      → None_in os ⊎ Rejects to token at r os
  rejected_back at None os h = inl h
  rejected_back at (Some x) os h = by (rejected at x.to x.id os) refl h
    where
      by : (o : Option Observer) → rejected at x.to x.id os ≡ o → None_in (without o os)
          → None_in os ⊎ Rejects to token at (Some x) os
      by None is k = inl k
      by (Some o) is k = elim (removed_back o.to o.token os k) [
        | inl z ↦ inl z
        | inr p ↦ inr (record { reset = x; observer = o; is = refl; whose = is; same = p })
      ]

  served_back : (at : ℕ) (a : Asked) (q : Question) (reply : Reply) (os : List Observer)
      → None_in (observers_with at a q reply os)
      → None_in os ⊎ ((observes 1 q ≡ true) × Pair a.from a.token)
  served_back at a q reply os h = by (registers a q reply os) (observes 1 q) refl h
    where
      by : (r m : Bool) → observes 1 q ≡ m → None_in
          (cond r (registered at a.from a.token q.path (szx_by (block_of q.options) q.szx) os)
          (cond m (removed a.from a.token os) os)) → None_in os ⊎ ((observes 1 q ≡ true) × Pair a.from a.token)
      by true m e k = inl (registered_back at a.from a.token q.path (szx_by (block_of q.options) q.szx) os k)
      by false true e k = elim (removed_back a.from a.token os k) [ inl z ↦ inl z | inr p ↦ inr (e, p) ]
      by false false e k = inl k

  ended_back : (e : Option Ended) (os : List Observer) → None_in (unless_ended e os)
      → None_in os ⊎ ((x : Ended) × (e ≡ Some x) × (x.observe ≡ true) × Pair x.to x.token)
  ended_back None os h = inl h
  ended_back (Some x) os h = by x.observe refl h
    where
      by : (b : Bool) → x.observe ≡ b → None_in (cond b (removed x.to x.token os) os)
          → None_in os ⊎ ((y : Ended) × (Some x ≡ Some y) × (y.observe ≡ true) × Pair y.to y.token)
      by true e k = elim (removed_back x.to x.token os k) [ inl z ↦ inl z | inr p ↦ inr (x, refl, e, p) ]
      by false e k = inl k

  module _ (limits : Limits) (szx : ℕ) where
    abbrev own : List Call → Own
    own t = own_of limits szx t

    abbrev Over : List Call → Call → Type 0
    Over t c = Ends limits szx to token t c

    abbrev Back : List Call → Call → List Observer → Type 0
    Back t c os = None_in os ⊎ Over t c

    told_over : (t : List Call) (c : Call) (e : Option Ended) → ends_in (own t) c ≡ e → (os : List Observer)
        → None_in (unless_ended e os) → Back t c os
    told_over t c e is os h = elim (ended_back e os h)
        [ inl k ↦ inl k | inr k ↦ inr (is_told k.0 (is ∙ k.1) k.2 k.3.0 k.3.1) ]

    -- what was served
    came_over : (t : List Call) (now : ℕ) (from : Endpoint) (bytes : List ℕ) (w : ℕ) (up : L.Answer)
        (p : Asked × Message) (q : Question) (reply : Reply) (left : Content) (below : L.Answer) (os : List Observer)
        → None_in (observers_served (max (own t).clock now) (own t).store p.0 q reply left os)
        → Back t (Feeds now from bytes w up (Some p) (Serves q reply left) below) os
    came_over t now from bytes w up p q reply left below os h =
        let s : Own = heard (own t) now (incoming (own t) now from bytes up (Some p)) in
        elim (served_back s.clock p.0 q reply os
        (marked_back s.clock q.path (own t).store left (observers_with s.clock p.0 q reply os) h)) [
          | inl k ↦ inl k
          | inr k ↦ inr (cancels (serving_of s p.0 q reply left) refl k.0 k.1.0 k.1.1)
        ]

    ready_over : (t : List Call) (now w : ℕ) (below : L.Answer) (room : Bool) (a : Asked) (passed : ℕ) (q : Question)
        (reply : Reply) (left : Content) (id : ℕ) (answer : Bool) (os : List Observer)
        → None_in (observers_served (max (own t).clock now) (own t).store a q reply left os)
        → Back t (Ticks now w below room (due.Ready a) passed (Serves q reply left) id answer) os
    ready_over t now w below room a passed q reply left id answer os h =
        let s : Own = heard (own t) now (ticking (own t) now below room (due.Ready a)) in
        elim (served_back s.clock a q reply os
        (marked_back s.clock q.path (own t).store left (observers_with s.clock a q reply os) h)) [
          | inl k ↦ inl k
          | inr k ↦ inr (cancels (serving_of s a q reply left) refl k.0 k.1.0 k.1.1)
        ]

    notice_over : (t : List Call) (now w : ℕ) (below : L.Answer) (room : Bool) (d : Due) (passed : ℕ) (o : Observer)
        (reply : Reply) (id : ℕ) (answer : Bool) (os : List Observer)
        → ServerRows limits szx (Ticks now w below room d passed (Notifies o reply) id answer ∷ t)
        → None_in (notified (by_plain (heard (own t) now (ticking (own t) now below room d)) o)
        (max (own t).clock now) id ((own t).store.holds o.path) o os)
        → Back t (Ticks now w below room d passed (Notifies o reply) id answer) os
    notice_over t now w below room d passed o reply id answer os rows h =
        elim (notified_back (by_plain (heard (own t) now (ticking (own t) now below room d)) o)
        (max (own t).clock now) id ((own t).store.holds o.path) o os h) [
          | inl k ↦ inl k
          | inr k ↦ (
              let code = (told_here limits szx t now w below room d passed o reply id answer rows).gone k.0 in
              inr (is_gone (record { observer = o; reply = reply }) refl
              (λ e. (let no = sym code ∙ e in cc no)) k.1.0 k.1.1))
        ]

    fed : (t : List Call) (now : ℕ) (from : Endpoint) (bytes : List ℕ) (w : ℕ) (up : L.Answer)
        (came : Option (Asked × Message)) (h : Handling) (below : L.Answer)
        → ServerRows limits szx (Feeds now from bytes w up came h below ∷ t)
        → None_in (own (Feeds now from bytes w up came h below ∷ t)).observers
        → Back t (Feeds now from bytes w up came h below)
        (heard (own t) now (incoming (own t) now from bytes up came)).observers
    fed t now from bytes w up None (Notifies o reply) below rows h = let k = rows.0 in absurd (cc k)
    fed t now from bytes w up (Some p) (Serves q reply left) below rows h =
        came_over t now from bytes w up p q reply left below
        (heard (own t) now (incoming (own t) now from bytes up (Some p))).observers h
    fed t now from bytes w up (Some p) (Notifies o reply) below rows h =
        absurd (never_notifies (heard (own t) now (incoming (own t) now from bytes up (Some p))) p o reply rows.0)
    fed t now from bytes w up _ _ below rows h = inl h

    ticked : (t : List Call) (now w : ℕ) (below : L.Answer) (room : Bool) (d : Due) (passed : ℕ) (h : Handling) (id : ℕ)
        (answer : Bool) → ServerRows limits szx (Ticks now w below room d passed h id answer ∷ t)
        → None_in (own (Ticks now w below room d passed h id answer ∷ t)).observers
        → Back t (Ticks now w below room d passed h id answer)
        (heard (own t) now (ticking (own t) now below room d)).observers
    ticked t now w below room (due.Ready a) passed (Serves q reply left) id answer rows h =
        ready_over t now w below room a passed q reply left id answer
        (heard (own t) now (ticking (own t) now below room (due.Ready a))).observers h
    ticked t now w below room d passed (Notifies o reply) id answer rows h =
        notice_over t now w below room d passed o reply id answer
        (heard (own t) now (ticking (own t) now below room d)).observers rows h
    ticked t now w below room _ passed _ id answer rows h = inl h

    back : (t : List Call) (c : Call) → ServerRows limits szx (c ∷ t) → None_in (own (c ∷ t)).observers
        → Back t c (own t).observers
    back t (Feeds now from bytes w up came h below) rows none =
        elim (fed t now from bytes w up came h below rows none) [
          | inl k ↦ elim (rejected_back (max (own t).clock now) (unmatched_by from up) _ k) [
            | inl z ↦ told_over t (Feeds now from bytes w up came h below) _ refl (own t).observers z
            | inr r ↦ inr (rejects_over limits szx t now from bytes w up came h below to token r)
          ]
          | inr over ↦ inr over
        ]
    back t (Ticks now w below room d passed h id answer) rows none =
        elim (ticked t now w below room d passed h id answer rows none) [
          | inl k ↦ told_over t (Ticks now w below room d passed h id answer) _ refl (own t).observers k
          | inr over ↦ inr over
        ]
    back t (Sets now path format body answer left) rows none =
        inl (marked_back (max (own t).clock now) path (own t).store left (own t).observers none)
    back t (Removes now path answer left) rows none = inl (marked_back (max (own t).clock now) path (own t).store left
        (own t).observers none)
    back t (Forgets peer) rows none =
        elim (elsewhere_either peer to token (own t).observers) [
          | inl e ↦ inl (sym e ∙ none)
          | inr gone ↦ inr (is_forgotten (ap (λ p. Some p) gone.0))
        ]
    back t _ rows none = inl none

module _ (limits : Limits) (szx : ℕ) where
  ends_so_here : (t : List Call) (c : Call) → ServerRows limits szx (c ∷ t)
      → (to : Endpoint) (token : List ℕ) (o : Observer) → registration to token (own_of limits szx t).observers ≡ Some o
      → registration to token (own_of limits szx (c ∷ t)).observers ≡ None
      → Ends limits szx to token t c
  ends_so_here t c rows to token o is none = elim (back to token limits szx t c rows none) [
    | inl k ↦ (let no = sym k ∙ is in absurd (cc no))
    | inr over ↦ over
  ]

  pub ends_so : (t : List Call) → ServerRows limits szx t → EndsSo limits szx t
  ends_so [] rows = tt
  ends_so (c ∷ t) rows = (ends_so_here t c rows, ends_so t rows.1)
