-- A GET with Observe 1 ends an observation, and so does a notification that is no 2.05.
use Rattle.std.proofs.Common.{◌≡◌, ◌≢◌, ℕ, ◌==◌, ◌&&◌, nat_lt, Bool, true, false, Option, Some, None, List, [], ◌∷◌}
use Rattle.std.proofs.Common.{length, refl, ap, subst, ◌∙◌, cond, option_map}
use Rattle.std.proofs.lemmas.Bool.{and_parts}
use Rattle.std.specs.Cmp.{unsigned_Decides}
use Rattle.coap_types.specs.OptionValues.{uint_at}
use Rattle.coap_types.specs.declared.option_number.TheConstants.{OBSERVE as observe}
use Rattle.coap_layer.specs.Trace as L
use Rattle.coap_observe.specs.declared.observers.TheConstants.{MAX_OBSERVERS as max_observers}
use Rattle.coap_observe.specs.Observers.{Observer, registration, removed, registered, changed_at, marked_by}
use Rattle.coap_observe.proofs.Facts.Registrations.{registration-removed, registration-changed_at}
use Rattle.coap_resource.specs.Content.{Content, Held}
use Rattle.coap_resource.specs.RequestOptions.{block_of, szx_by}
use Rattle.coap_resource.specs.Serves.{Question, Reply, got}
use Rattle.coap_resource.specs.Limits.{Limits}
use Rattle.coap_exchange.specs.declared.answerer.Asked.{Asked}
use Rattle.coap_exchange.specs.declared.answerer.Due.{Due}
use Rattle.coap_exchange.specs.declared.answerer.Due.TheVariants as due
use Rattle.coap_exchange.specs.SuccessCodes.{content}
use Rattle.coap_server.specs.Trace.{Own, Serves, Notifies, Call}
use Rattle.coap_server.specs.Trace.{Feeds, Ticks}
use Rattle.coap_server.specs.Observers.{is_get, is_number, observes, registers, observers_with}
use Rattle.coap_server.specs.Notifying.{asks_for, notified}
use Rattle.coap_server.specs.Serving.{observers_served}
use Rattle.coap_server.specs.Plain.{by_plain}
use Rattle.coap_server.specs.Handling.{incoming, ticking, heard}
use Rattle.coap_server.specs.Law.{ServerRows, own_of}
use Rattle.coap_server.specs.Follows.Observes.{Notice, notice, not_found, EndsOnRequest, EndsWith}
use Rattle.coap_server.specs.Follows.Observes.{EndsOnNotice}
use Rattle.coap_server.specs.Follows.Serves.{Serving, serving, serving_of}
use Rattle.coap_server.proofs.Facts.Observing.Outcomes.{Turned, turned, noticed}

-- a GET with Observe 1 registers nothing

not_zero : (q : Question) → observes 1 q ≡ true → observes 0 q ≡ false
not_zero q h = by (uint_at observe q.options) h
  where
    by : (o : Option ℕ) → (is_get q.method && is_number 1 o) ≡ true → (is_get q.method && is_number 0 o) ≡ false
    by None k = let z = (and_parts (is_get q.method) false k).1 in absurd (cc z)
    by (Some v) k =
        let z = and_parts (is_get q.method) (v == 1) k in
        ap (λ g. g && (v == 0)) z.0 ∙ ap (λ n. n == 0) ((unsigned_Decides v 1).0 z.1)

module _ (at : ℕ) (a : Asked) (q : Question) (reply : Reply) (os : List Observer) (h : observes 1 q ≡ true) where
  registers_not : registers a q reply os ≡ false
  registers_not = ap (λ b. b && ((reply.code == content)
      && ((reply.offset == 0) && nat_lt (length (removed a.from a.token os)) max_observers))) (not_zero q h)

  none_with : registration a.from a.token (observers_with at a q reply os) ≡ None
  none_with =
      ap (λ b. registration a.from a.token (cond b
      (registered at a.from a.token q.path (szx_by (block_of q.options) q.szx) os)
      (cond (observes 1 q) (removed a.from a.token os) os))) registers_not
      ∙ (ap (λ b. registration a.from a.token (cond b (removed a.from a.token os) os)) h
      ∙ registration-removed a.from a.token os)

  none_served : (old left : Content) → registration a.from a.token (observers_served at old a q reply left os) ≡ None
  none_served old left = by (left.tally.version == old.tally.version)
    where
      by : (b : Bool) → registration a.from a.token
          (cond b (observers_with at a q reply os) (changed_at at q.path (observers_with at a q reply os))) ≡ None
      by true = none_with
      by false = registration-changed_at at q.path a.from a.token (observers_with at a q reply os)
          ∙ ap (option_map (marked_by at q.path)) none_with

-- what an observer is told

gone_so : (o : Observer) (held : Option Held) → held ≡ None → (got held (asks_for o)).code ≡ not_found
gone_so o held h = ap (λ z. (got z (asks_for o)).code) h

held_so : (plain : Bool) (at id : ℕ) (o : Observer) (os : List Observer) (held : Option Held)
    → (got held (asks_for o)).code ≢ content → registration o.to o.token (notified plain at id held o os) ≡ None
held_so plain at id o os None h = registration-removed o.to o.token os
held_so plain at id o os (Some held) h = absurd (h refl)

module _ (limits : Limits) (szx : ℕ) where
  abbrev own : List Call → Own
  own t = own_of limits szx t

  abbrev Over : List Call → Call → Serving → Type 0
  Over t c x = registration x.asked.from x.asked.token (own (c ∷ t)).observers ≡ None

  served_over : (t : List Call) (c : Call) (s : Own) (a : Asked) (q : Question) (reply : Reply) (left : Content)
      (x : Serving) → (own (c ∷ t)).observers ≡ observers_served s.clock s.store a q reply left s.observers
      → Some (serving_of s a q reply left) ≡ Some x
      → observes 1 x.question ≡ true → Over t c x
  served_over t c s a q reply left x is e h =
      let same : ◌≡◌ {A = Serving} (serving_of s a q reply left) x = cc e in
      subst (λ (y : Serving). observes 1 y.question ≡ true → Over t c y) same
      (λ k. ap (registration a.from a.token) is ∙ none_served s.clock a q reply s.observers k s.store left) h

  ends_here : (t : List Call) (c : Call) (x : Serving) → serving (own t) c ≡ Some x → observes 1 x.question ≡ true
      → Over t c x
  ends_here t (Feeds now from bytes w up (Some p) (Serves q reply left) below) x e h =
      served_over t (Feeds now from bytes w up (Some p) (Serves q reply left) below)
      (heard (own t) now (incoming (own t) now from bytes up (Some p))) p.0 q reply left x refl e h
  ends_here t (Ticks now w below room (due.Ready a) passed (Serves q reply left) id answer) x e h =
      served_over t (Ticks now w below room (due.Ready a) passed (Serves q reply left) id answer)
      (heard (own t) now (ticking (own t) now below room (due.Ready a))) a q reply left x refl e h
  ends_here t _ x e k = absurd (cc e)

  pub ends_on_request : (t : List Call) → EndsOnRequest limits szx t
  ends_on_request [] = tt
  ends_on_request (c ∷ t) = (ends_here t c, ends_on_request t)

  pub told_here : (t : List Call) (now w : ℕ) (below : L.Answer) (room : Bool) (d : Due) (passed : ℕ) (o : Observer)
      (reply : Reply) (id : ℕ) (answer : Bool) → ServerRows limits szx
      (Ticks now w below room d passed (Notifies o reply) id answer ∷ t)
      → EndsWith limits szx t (Ticks now w below room d passed (Notifies o reply) id answer)
      (record { observer = o; reply = reply })
  told_here t now w below room d passed o reply id answer rows =
      by d (turned (heard (own t) now (ticking (own t) now below room d)) passed d (Notifies o reply) rows.0.0)
    where
      by : (d : Due) → Turned (heard (own t) now (ticking (own t) now below room d)) passed d (Notifies o reply)
          → EndsWith limits szx t (Ticks now w below room d passed (Notifies o reply) id answer)
          (record { observer = o; reply = reply })
      by d (noticed _ _ found is) =
          let s : Own = heard (own t) now (ticking (own t) now below room due.Idle) in
          let code : reply.code ≡ (got (s.store.holds o.path) (asks_for o)).code = ap (λ (r : Reply). r.code) is in
          record {
            gone = λ h. code ∙ gone_so o (s.store.holds o.path) h;
            last = λ h. held_so (by_plain s o) s.clock id o s.observers (s.store.holds o.path) (λ e. h (code ∙ e));
          }

  notice_here : (t : List Call) (c : Call) → ServerRows limits szx (c ∷ t) → (x : Notice) → notice c ≡ Some x
      → EndsWith limits szx t c x
  notice_here t (Ticks now w below room d passed (Notifies o reply) id answer) rows x e =
      let same : ◌≡◌ {A = Notice} (record { observer = o; reply = reply }) x = cc e in
      subst (EndsWith limits szx t (Ticks now w below room d passed (Notifies o reply) id answer)) same
      (told_here t now w below room d passed o reply id answer rows)
  notice_here t _ rows x e = absurd (cc e)

  pub ends_on_notice : (t : List Call) → ServerRows limits szx t → EndsOnNotice limits szx t
  ends_on_notice [] rows = tt
  ends_on_notice (c ∷ t) rows = (notice_here t c rows, ends_on_notice t rows.1)
