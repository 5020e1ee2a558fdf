-- When a server tells what it tells: at its moment, which is that of what its message layer sends for it.
use Rattle.std.proofs.Common.{◌≡◌, ◌≤◌, inl, inr, ⊎_elim, ℕ, ◌+◌, Bool, true, false, Option, Some, None, List, [], ◌∷◌}
use Rattle.std.proofs.Common.{refl, ap, sym, ◌∙◌, arith}
use Rattle.coap_types.specs.Past.{Ever}
use Rattle.coap_types.specs.declared.endpoint.Endpoint.{Endpoint}
use Rattle.coap_types.specs.declared.transmission.TheConstants.{MAX_LATENCY_MS as max_latency}
use Rattle.coap_layer.specs.Channel.{PlainSent}
use Rattle.coap_layer.specs.Trace as L
use Rattle.coap_layer.specs.Words.{Open, begun}
use Rattle.coap_layer.proofs.Facts.Laws.{begins_of}
use Rattle.coap_observe.specs.Observers.{Observer}
use Rattle.coap_resource.specs.Content.{Held}
use Rattle.coap_resource.specs.Serves.{Question}
use Rattle.coap_exchange.specs.declared.answerer.Asked.{Asked}
use Rattle.coap_exchange.specs.declared.answerer.Due.TheVariants as due
use Rattle.coap_server.specs.Follows.Tells.{InCon, InReply, Telling, Way, telling, telling_of, tells, tells_if, way_of}
use Rattle.coap_server.specs.Handling.{incoming, ticking, heard}
use Rattle.coap_server.specs.Law.{own_of}
use Rattle.coap_server.specs.Observers.{registers}
use Rattle.coap_server.specs.Plain.{by_plain}
use Rattle.coap_server.specs.Steps.{after}
use Rattle.coap_server.specs.Trace.{Own, Serves, Notifies, Call, Sets, Removes, Feeds, Refuses, Ticks}
use Rattle.coap_record.specs.Events.{Config}
use Rattle.coap_promise.specs.Hops.{server_adds}
use Rattle.coap_promise.proofs.Facts.Delivery.EntriesInTime.{Every, Timely}
use Rattle.coap_promise.proofs.Facts.Delivery.ServerInTime.{Counts, Fed, IsBy, adds_counted, later_by, next_counted}

-- what is told has the moment of the server

answer_at : (s : Own) (a : Asked) (q : Question) (way : Way) (b : Bool) (x : Telling)
    → tells_if b s.clock s.store a q way ≡ Some x → x.at ≡ s.clock
answer_at s a q way false x h = absurd (cc h)
answer_at s a q way true x h = by (s.store.holds q.path) h
  where
    by : (o : Option Held) → tells a.from a.token q.path way s.clock true o ≡ Some x → x.at ≡ s.clock
    by None e = absurd (cc e)
    by (Some held) e =
        let same : telling_of a.from a.token q.path way s.clock true held ≡ x = cc e in
        sym (ap (λ (z : Telling). z.at) same)

notice_at : (s : Own) (o : Observer) (way : Way) (held : Option Held) (x : Telling)
    → tells o.to o.token o.path way s.clock false held ≡ Some x → x.at ≡ s.clock
notice_at s o way None x h = absurd (cc h)
notice_at s o way (Some held) x h =
    let same : telling_of o.to o.token o.path way s.clock false held ≡ x = cc h in
    sym (ap (λ (z : Telling). z.at) same)

told_then : (s : Own) (c : Call) (x : Telling) → telling s c ≡ Some x → x.at ≡ (after s c).clock
told_then s (Feeds now from bytes word up (Some p) (Serves q reply left) below) x h =
    let t = heard s now (incoming s now from bytes up (Some p)) in
    answer_at t p.0 q InReply (registers p.0 q reply t.observers) x h
told_then s (Ticks now word below room (due.Ready a) passed (Serves q reply left) id answer) x h =
    let t = heard s now (ticking s now below room (due.Ready a)) in
    answer_at t a q (InCon id) (registers a q reply t.observers) x h
told_then s (Ticks now word below room due.Idle passed (Notifies o reply) id answer) x h =
    let t = heard s now (ticking s now below room due.Idle) in
    notice_at t o (way_of (by_plain t o) id) (t.store.holds o.path) x h
told_then s _ x h = absurd (cc h)

-- a call moves the clock on, to the moment that counts
pub moves : (s : Own) (c : Call) → (s.clock ≤ (after s c).clock) × Counts (after s c).clock s.clock c
moves s (Sets now path format body answer left) = (omega arith, refl)
moves s (Removes now path answer left) = (omega arith, refl)
moves s (Feeds now from bytes word up came h below) = (omega arith, refl)
moves s (Refuses now from bytes word code up p response below) = (omega arith, refl)
moves s (Ticks now word below room d passed h id answer) = (omega arith, refl)
moves s _ = (omega arith, tt)

-- a CON of these entries, and a NON

con_in : (t : ℕ) (F : Endpoint → List ℕ → Type 0) (con : Open) (es : List L.Entry) → Every (Timely t F) es
    → Ever (λ b. begun b ≡ Some con) es → con.first ≡ t
con_in t F con [] all h = absurd h
con_in t F con (e ∷ es) all (inr h) = con_in t F con es all.1 h
con_in t F con (e ∷ es) all (inl h) =
    let b = begins_of e con h in
    let first = b.first_is in
    let till = all.0.till in
    ⊎_elim (λ take. (let clash = sym take ∙ b.call_is in absurd (cc clash)))
    (λ since. omega (arith, first, till, since))
    all.0.since

non_in : (t : ℕ) (F : Endpoint → List ℕ → Type 0) (to : Endpoint) (bytes : List ℕ) (at : ℕ) (es : List L.Entry)
    → Every (Timely t F) es → Ever (PlainSent to bytes at) es → (t ≤ at) × (at ≤ t + max_latency)
non_in t F to bytes at [] all h = absurd h
non_in t F to bytes at (e ∷ es) all (inr h) = non_in t F to bytes at es all.1 h
non_in t F to bytes at (e ∷ es) all (inl h) =
    let from = h.from in
    let late = h.till in
    let till = all.0.till in
    ⊎_elim (λ take. (let clash = sym take ∙ h.goes.call in absurd (cc clash)))
    (λ since. (omega (arith, since, from), omega (arith, late, till))) all.0.since

non_by : (t : ℕ) (F : Endpoint → List ℕ → Type 0) (to : Endpoint) (bytes : List ℕ) (at now : ℕ) (es : List L.Entry)
    → Every (Timely t F) es → Ever (λ e. PlainSent to bytes at e × (e.at ≤ now)) es → t ≤ now
non_by t F to bytes at now [] all h = absurd h
non_by t F to bytes at now (e ∷ es) all (inr h) = non_by t F to bytes at now es all.1 h
non_by t F to bytes at now (e ∷ es) all (inl h) =
    let by = h.1 in
    ⊎_elim (λ take. (let clash = sym take ∙ h.0.goes.call in absurd (cc clash))) (λ since. omega (arith, since, by))
    all.0.since

module _ (config : Config) where
  abbrev own : List Call → Own
  own t = own_of config.limits config.server_szx t

  by_own : (t : List Call) → IsBy config (own t).clock t
  by_own [] = record { own = omega arith; between = omega arith; layer = omega arith }
  by_own (c ∷ t) =
      let k = moves (own t) c in
      next_counted config (own (c ∷ t)).clock t c
      (later_by config (own t).clock (own (c ∷ t)).clock t k.0 (by_own t)) k.1

  timely : (t : List Call) (c : Call) → Every (Timely (own (c ∷ t)).clock (Fed c)) (server_adds config t c)
  timely t c =
      let k = moves (own t) c in
      adds_counted config (own (c ∷ t)).clock t c
      (later_by config (own t).clock (own (c ∷ t)).clock t k.0 (by_own t)) k.1

  -- a CON begins at the moment of the call
  pub begun_then : (t : List Call) (c : Call) (con : Open) → Ever (λ b. begun b ≡ Some con) (server_adds config t c)
      → con.first ≡ (own (c ∷ t)).clock
  begun_then t c con h = con_in (own (c ∷ t)).clock (Fed c) con (server_adds config t c) (timely t c) h

  -- a NON is sent at most MAX_LATENCY before it comes
  pub sent_then : (t : List Call) (c : Call) (to : Endpoint) (bytes : List ℕ) (at : ℕ)
      → Ever (PlainSent to bytes at) (server_adds config t c) → at ≤ (own (c ∷ t)).clock + max_latency
  sent_then t c to bytes at h = (non_in (own (c ∷ t)).clock (Fed c) to bytes at (server_adds config t c) (timely t c)
      h).1

  pub told_in_con : (t : List Call) (c : Call) (x : Telling) (con : Open) → telling (own t) c ≡ Some x
      → Ever (λ b. begun b ≡ Some con) (server_adds config t c) → x.at ≡ con.first
  told_in_con t c x con is h = told_then (own t) c x is ∙ sym (begun_then t c con h)

  pub told_in_non : (t : List Call) (c : Call) (x : Telling) (to : Endpoint) (bytes : List ℕ) (at : ℕ)
      → telling (own t) c ≡ Some x → Ever (PlainSent to bytes at) (server_adds config t c)
      → (x.at ≤ at) × (at ≤ x.at + max_latency)
  told_in_non t c x to bytes at is h =
      let k = non_in (own (c ∷ t)).clock (Fed c) to bytes at (server_adds config t c) (timely t c) h in
      let from = k.0 in
      let till = k.1 in
      let then = told_then (own t) c x is in
      (omega (arith, from, then), omega (arith, till, then))

  -- .. and the layer has come as far
  pub told_before : (t : List Call) (c : Call) (x : Telling) (to : Endpoint) (bytes : List ℕ) (at now : ℕ)
      → telling (own t) c ≡ Some x → Ever (λ e. PlainSent to bytes at e × (e.at ≤ now)) (server_adds config t c)
      → x.at ≤ now
  told_before t c x to bytes at now is h =
      let k = non_by (own (c ∷ t)).clock (Fed c) to bytes at now (server_adds config t c) (timely t c) h in
      let then = told_then (own t) c x is in omega (arith, k, then)
