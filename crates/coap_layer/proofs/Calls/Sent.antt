-- A message that is sent, or refused, is a step.
use Rattle.std.proofs.Common.{◌≡◌, ℕ, ◌+◌, ◌/◌, ◌%◌, max, Bool, true, false, Option, Some, None, List, [], ◌∷◌, ◌++◌}
use Rattle.std.proofs.Common.{Ok, Err, slice_set, refl, ap, sym, subst, not, ◌&&◌, is_some}
use Rattle.std.specs.Option.{is_none}
use Rattle.coap_types.specs.declared.endpoint.Endpoint.{Endpoint}
use Rattle.coap_types.specs.declared.message.Id.{Id}
use Rattle.coap_types.specs.declared.message.Kind.TheVariants.{Con, Non}
use Rattle.coap_codec.specs.Spelling.{message_bytes}
use Rattle.coap_layer.specs.declared.up.SendRefusal.{SendRefusal}
use Rattle.coap_layer.specs.declared.up.SendRefusal.TheVariants as refusal
use Rattle.coap_layer.specs.Rows.{IsSpelled}
use Rattle.coap_layer.specs.Machine.State.{State, Arrived, Step, forgotten, is_busy, is_free}
use Rattle.coap_layer.specs.Trace.{Busied, Is, Confirm, Content, NoIds, Packet, Plain, Sent, with_head}
use Rattle.coap_layer.specs.Machine.Ups.{refusal_of, sent_as}
use Rattle.coap_layer.specs.Words.{Open}
use Rattle.coap_types.specs.declared.transmission.TheConstants.{ACK_TIMEOUT_MS as ack_timeout}
use Rattle.coap_types.specs.declared.transmission.TheConstants.{TIMEOUT_VALUES as timeout_values}
use Rattle.coap_layer.specs.declared.message_id.TheConstants.{GROUP_SIZE as group_size}
use Rattle.coap_types.specs.declared.message.TheConstants.{MESSAGE_IDS as message_ids}
use Rattle.coap_layer.proofs.Calls.CallsAreSteps.{con_sent, moved, non_sent, step_of, still}

module _ (h s : State) (now at : ℕ) (to : Endpoint) (content : Content) (is : forgotten h ≡ s)
    (spelled : IsSpelled content) (moment : at ≡ max h.clock now) where
  -- a CON

  pub con_refused : (word : ℕ) (busy free : Bool) (r : SendRefusal) → busy ≡ is_busy to h.open_cons
      → free ≡ is_free at h.upcoming h.last_used → refusal_of busy free ≡ Some r
      → Step s now (Confirm to content word) (sent_as (Err r))
      (forgotten (moved h at None h.arrived h.open_cons h.queue))
  con_refused word true free r hb hf e =
      let why : refusal.Outstanding ≡ r = cc e in
      rw (← why) (step_of h s _ now at (Confirm to content word) Busied [] is spelled (sym moment) (rw (← hb) refl)
      (rw (← hb) refl)
      (ap forgotten (sym (still h at (Confirm to content word) Busied None (λ a. refl)
      (λ x. refl) refl refl refl refl refl))))
  con_refused word false false r hb hf e =
      let why : refusal.NoIds ≡ r = cc e in
      rw (← why) (step_of h s _ now at (Confirm to content word) NoIds [] is spelled (sym moment) (rw (← hb, ← hf) refl)
      (rw (← hb, ← hf) refl)
      (ap forgotten (sym (still h at (Confirm to content word) NoIds None (λ a. refl)
      (λ x. refl) refl refl refl refl refl))))
  con_refused word false true r hb hf e = absurd (cc e)

  pub con_left : (word : ℕ) (busy free : Bool) (id : Id) (next : ℕ) (used : List (Option ℕ)) (es : List Arrived)
      (cs : List Open) (q : List Packet)
      → busy ≡ is_busy to h.open_cons → free ≡ is_free at h.upcoming h.last_used → refusal_of busy free ≡ None
      → id.0 ≡ h.upcoming
      → next ≡ (h.upcoming + 1) % message_ids → used ≡ slice_set h.last_used (h.upcoming / group_size) (Some at)
      → es ≡ h.arrived
      → cs ≡ h.open_cons ++ record {
        to = to;
        id = id.0;
        bytes = message_bytes (with_head Con id.0 content);
        timeout = ack_timeout + word % timeout_values;
        first = at;
        last = at;
      } ∷ []
      → q ≡ h.queue ++ record { to = to; bytes = message_bytes (with_head Con id.0 content) } ∷ []
      → Step s now (Confirm to content word) (sent_as (Ok id))
      (forgotten (record {
        most = h.most;
        clock = at;
        awaits = None;
        upcoming = next;
        last_used = used;
        arrived = es;
        open_cons = cs;
        queue = q;
      }))
  con_left word true free id next used es cs q hb hf e n a b c d f = absurd (cc e)
  con_left word false false id next used es cs q hb hf e n a b c d f = absurd (cc e)
  con_left word false true id next used es cs q hb hf e n a b c d f =
      let p : Packet = record { to = to; bytes = message_bytes (with_head Con id.0 content) } in
      let left = con_sent h at to content id.0 word p in
      step_of h s _ now at (Confirm to content word) (Sent id.0) (p ∷ []) is spelled (sym moment)
      (rw (← hb, ← hf) (ap Sent n))
      (rw (← hb, ← hf) (ap (λ (x : ℕ). record { to = to; bytes = message_bytes (with_head Con x content) } ∷ [])
      (sym n)))
      (ap forgotten (cc (n, a, b, c, d, f, left)))

  -- a NON

  pub non_refused : (free : Bool) (r : SendRefusal) → free ≡ is_free at h.upcoming h.last_used
      → refusal_of false free ≡ Some r
      → Step s now (Plain to content) (sent_as (Err r)) (forgotten (moved h at None h.arrived h.open_cons h.queue))
  non_refused false r hf e =
      let why : refusal.NoIds ≡ r = cc e in
      rw (← why) (step_of h s _ now at (Plain to content) NoIds [] is spelled (sym moment) (rw (← hf) refl)
      (rw (← hf) refl)
      (ap forgotten (sym (still h at (Plain to content) NoIds None (λ a. refl) (λ x. refl) refl refl refl refl refl))))
  non_refused true r hf e = absurd (cc e)

  pub non_left : (free : Bool) (id : Id) (next : ℕ) (used : List (Option ℕ)) (es : List Arrived) (cs : List Open)
      (q : List Packet)
      → free ≡ is_free at h.upcoming h.last_used → refusal_of false free ≡ None → id.0 ≡ h.upcoming
      → next ≡ (h.upcoming + 1) % message_ids → used ≡ slice_set h.last_used (h.upcoming / group_size) (Some at)
      → es ≡ h.arrived → cs ≡ h.open_cons
      → q ≡ h.queue ++ record { to = to; bytes = message_bytes (with_head Non id.0 content) } ∷ []
      → Step s now (Plain to content) (sent_as (Ok id))
      (forgotten (record {
        most = h.most;
        clock = at;
        awaits = None;
        upcoming = next;
        last_used = used;
        arrived = es;
        open_cons = cs;
        queue = q;
      }))
  non_left false id next used es cs q hf e n a b c d f = absurd (cc e)
  non_left true id next used es cs q hf e n a b c d f =
      let p : Packet = record { to = to; bytes = message_bytes (with_head Non id.0 content) } in
      let left = non_sent h at to content id.0 p in
      step_of h s _ now at (Plain to content) (Sent id.0) (p ∷ []) is spelled (sym moment) (rw (← hf) (ap Sent n))
      (rw (← hf) (ap (λ (x : ℕ). record { to = to; bytes = message_bytes (with_head Non x content) } ∷ []) (sym n)))
      (ap forgotten (cc (n, a, b, c, d, f, left)))

-- nothing refuses it
may_so : (busy free : Bool) → is_none (refusal_of busy free) ≡ (not busy && free)
may_so true free = refl
may_so false true = refl
may_so false false = refl

flip : (b may : Bool) → b ≡ not may → may ≡ not b
flip b true e = rw e refl
flip b false e = rw e refl

pub may_be : (busy free b f may : Bool) (r : Option SendRefusal) → r ≡ refusal_of busy free → is_some r ≡ not may
    → busy ≡ b → free ≡ f → may ≡ (not b && f)
may_be busy free b f may r hr hm hb hf = let so = may_so b f in let here =
    flip (is_some r) may hm in cc (hr, here, hb, hf, so)

pub told_so : (h s : State) (to : Endpoint) (now at : ℕ) (may : Bool) → forgotten h ≡ s → at ≡ max h.clock now
    → may ≡ (not (is_busy to h.open_cons) && is_free at h.upcoming h.last_used)
    → Is (not (is_busy to s.open_cons) && is_free (max s.clock now) s.upcoming s.last_used) ≡ Is may
told_so h s to now at may is moment e =
    let here : Is (not (is_busy to h.open_cons) && is_free (max h.clock now) h.upcoming h.last_used)
    ≡ Is may = cc (e, moment) in
    subst (λ (x : State). Is (not (is_busy to x.open_cons) && is_free (max x.clock now) x.upcoming x.last_used)
    ≡ Is may) is here

-- .. and the other way round, of the state by its parts
pub so_told : (h s : State) (to : Endpoint) (now at : ℕ) (may : Bool) → forgotten h ≡ s → at ≡ max h.clock now
    → Is (not (is_busy to s.open_cons) && is_free (max s.clock now) s.upcoming s.last_used) ≡ Is may
    → Is may ≡ Is (not (is_busy to h.open_cons) && is_free at h.upcoming h.last_used)
so_told h s to now at may is moment told =
    let here : Is (not (is_busy to h.open_cons) && is_free (max h.clock now) h.upcoming h.last_used) ≡ Is may =
    subst (λ (x : State). Is (not (is_busy to x.open_cons) && is_free (max x.clock now) x.upcoming x.last_used)
    ≡ Is may) (sym is) told in
    cc (here, moment)

pub no_room : (h s : State) (to : Endpoint) (now at : ℕ) (may : Bool) → forgotten h ≡ s → at ≡ max h.clock now
    → may ≡ (not (is_busy to h.open_cons) && is_free at h.upcoming h.last_used)
    → Is (not (is_busy to s.open_cons) && is_free (max s.clock now) s.upcoming s.last_used) ≡ Is false → may ≡ false
no_room h s to now at may is moment e quiet =
    let here : Is (not (is_busy to h.open_cons) && is_free (max h.clock now) h.upcoming h.last_used) ≡ Is false =
    subst (λ (x : State). Is (not (is_busy to x.open_cons) && is_free (max x.clock now) x.upcoming x.last_used)
    ≡ Is false) (sym is) quiet in
    cc (here, e, moment)

-- what is not refused but for memory could be sent
sends_if : (busy free b f : Bool) → busy ≡ b → free ≡ f → refusal_of busy free ≡ None → (not b && f) ≡ true
sends_if true free b f hb hf none = absurd (cc none)
sends_if false false b f hb hf none = absurd (cc none)
sends_if false true b f hb hf none = rw (← hb, ← hf) refl

pub not_refused : (h s : State) (to : Endpoint) (now at : ℕ) (busy free : Bool) → forgotten h ≡ s → at ≡ max h.clock now
    → busy ≡ is_busy to h.open_cons → free ≡ is_free at h.upcoming h.last_used → refusal_of busy free ≡ None
    → Is (not (is_busy to s.open_cons) && is_free (max s.clock now) s.upcoming s.last_used) ≡ Is false → ⊥
not_refused h s to now at busy free is moment hb hf none quiet =
    let sends = sends_if busy free (is_busy to h.open_cons) (is_free at h.upcoming h.last_used) hb hf none in
    let not_so = no_room h s to now at (not (is_busy to h.open_cons) && is_free at h.upcoming h.last_used) is moment
    refl quiet in
    cc (sends, not_so)

pub not_without : (h s : State) (now at : ℕ) (free : Bool) → forgotten h ≡ s → at ≡ max h.clock now
    → free ≡ is_free at h.upcoming h.last_used → refusal_of false free ≡ None
    → Is (is_free (max s.clock now) s.upcoming s.last_used) ≡ Is false → ⊥
not_without h s now at free is moment hf none quiet =
    let sends : is_free at h.upcoming h.last_used
    ≡ true = sends_if false free false (is_free at h.upcoming h.last_used) refl hf none in
    let here : Is (is_free (max h.clock now) h.upcoming h.last_used)
    ≡ Is false = subst (λ (x : State). Is (is_free (max x.clock now) x.upcoming x.last_used) ≡ Is false)
    (sym is) quiet in
    cc (sends, here, moment)
