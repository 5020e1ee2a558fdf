-- A notification of what its path holds tells the version of that, with a 2.05.
use Rattle.std.proofs.Common.{◌≡◌, ℕ, Bool, true, false, Option, Some, None, List, ◌∷◌, refl, ap, sym, subst, ◌∙◌}
use Rattle.coap_layer.specs.Trace as L
use Rattle.coap_layer.specs.declared.setup.Setup.{Setup}
use Rattle.coap_observe.specs.Observers.{Observer}
use Rattle.coap_resource.specs.Content.{Content, Held}
use Rattle.coap_resource.specs.Limits.{Limits}
use Rattle.coap_resource.specs.Serves.{Question, Reply, content_reply, got}
use Rattle.coap_exchange.specs.declared.answerer.Asked.{Asked}
use Rattle.coap_exchange.specs.declared.answerer.Due.{Due}
use Rattle.coap_exchange.specs.declared.answerer.Due.TheVariants as due
use Rattle.coap_client.specs.Responses.{content}
use Rattle.coap_server.specs.Deferring.{AnswersWaiting, question_of}
use Rattle.coap_server.specs.Follows.Observes.{Notice, notice}
use Rattle.coap_server.specs.Follows.Tells.{InCon, InReply, Telling, Way, telling, telling_of, tells, tells_if, way_of}
use Rattle.coap_server.specs.Handling.{heard, incoming, ticking}
use Rattle.coap_server.specs.Law.{ServerLaw, own_of}
use Rattle.coap_server.specs.Notifying.{NotifiesNext, asks_for, behind, marked, told}
use Rattle.coap_server.specs.Observers.{registers}
use Rattle.coap_server.specs.Plain.{by_plain}
use Rattle.coap_server.specs.Trace.{Call, Own, Serves, Notifies, Feeds, Ticks}

next_told : (next : Option Observer) (store : Content) (o : Observer) (reply : Reply)
    → NotifiesNext next store (Notifies o reply) → reply ≡ told store o
next_told None store o reply h = absurd (cc h)
next_told (Some p) store o reply h =
    let same : o ≡ p = cc h in
    let said : reply ≡ told store p = cc h in
    said ∙ ap (told store) (sym same)

-- what waits is answered by no notification
no_answer : (q : Option Question) (store : Content) (at : ℕ) (o : Observer) (reply : Reply)
    → AnswersWaiting q store at (Notifies o reply) → ⊥
no_answer None store at o reply h = cc h
no_answer (Some q) store at o reply h = let is = h.is in cc is

-- what it says, and what it tells
pub record TellsHeld (s : Own) (c : Call) (n : Notice) (held : Held) : Type 0 where
  pub code : n.reply.code ≡ content
  pub reply : n.reply ≡ content_reply held false 0 n.observer.szx
  pub told : Telling
  pub is : telling s c ≡ Some told
  pub to : told.to ≡ n.observer.to
  pub token : told.token ≡ n.observer.token
  pub path : told.path ≡ n.observer.path
  pub version : told.version ≡ held.version
  pub notifies : told.registers ≡ false

module _ (limits : Limits) (szx : ℕ) (setup : Setup) (t : List Call) (held : Held) where
  abbrev s : Own
  s = own_of limits szx t

  by_idle : (now w : ℕ) (below : L.Answer) (room : _) (passed : ℕ) (o : Observer) (reply : Reply) (id : ℕ) (answer : _)
      → ServerLaw limits szx setup (Ticks now w below room due.Idle passed (Notifies o reply) id answer ∷ t)
      → s.store.holds o.path ≡ Some held
      → TellsHeld s (Ticks now w below room due.Idle passed (Notifies o reply) id answer)
      (record { observer = o; reply = reply }) held
  by_idle now w below room passed o reply id answer law holds =
      let h : Own = heard s now (ticking s now below room due.Idle) in
      let way : Way = way_of (by_plain h o) id in
      let said : reply ≡ told s.store o =
      next_told (behind passed (marked h.observers)) s.store o reply law.rows.0.0 in
      record {
        code = ap (λ (r : Reply). r.code) said ∙ ap (λ x. (got x (asks_for o)).code) holds;
        reply = said ∙ ap (λ x. got x (asks_for o)) holds;
        told = telling_of o.to o.token o.path way h.clock false held;
        is = ap (tells o.to o.token o.path way h.clock false) holds;
        to = refl;
        token = refl;
        path = refl;
        version = refl;
        notifies = refl;
      }

  by_tick : (now w : ℕ) (below : L.Answer) (room : _) (d : Due) (passed : ℕ) (o : Observer) (reply : Reply) (id : ℕ)
      (answer : _) → ServerLaw limits szx setup (Ticks now w below room d passed (Notifies o reply) id answer ∷ t)
      → s.store.holds o.path ≡ Some held
      → TellsHeld s (Ticks now w below room d passed (Notifies o reply) id answer)
      (record { observer = o; reply = reply }) held
  by_tick now w below room due.Idle passed o reply id answer law holds =
      by_idle now w below room passed o reply id answer law holds
  by_tick now w below room (due.Ready a) passed o reply id answer law holds =
      let h : Own = heard s now (ticking s now below room (due.Ready a)) in
      absurd (no_answer (question_of h.clock a h.waiting) h.store h.clock o reply law.rows.0.0)
  by_tick now w below room _ passed o reply id answer law holds = let e = law.rows.0.0 in absurd (cc e)

  pub tells_held : (c : Call) → ServerLaw limits szx setup (c ∷ t) → (n : Notice) → notice c ≡ Some n
      → s.store.holds n.observer.path ≡ Some held → TellsHeld s c n held
  tells_held (Ticks now w below room d passed (Notifies o reply) id answer) law n is holds =
      let same : ◌≡◌ {A = Notice} (record { observer = o; reply = reply }) n = cc is in
      subst (λ (m : Notice). TellsHeld s (Ticks now w below room d passed (Notifies o reply) id answer) m held) same
      (by_tick now w below room d passed o reply id answer law
      (ap (λ (m : Notice). s.store.holds m.observer.path) same ∙ holds))
  tells_held _ law n is holds = absurd (cc is)

-- And what is told that makes no registration is told in a notification.

answer_registers : (b : Bool) (at : ℕ) (store : Content) (a : Asked) (q : Question) (way : Way) (u : Telling)
    → tells_if b at store a q way ≡ Some u → u.registers ≡ true
answer_registers false at store a q way u h = absurd (cc h)
answer_registers true at store a q way u h = by (store.holds q.path) h
  where
    by : (o : Option Held) → tells a.from a.token q.path way at true o ≡ Some u → u.registers ≡ true
    by None e = absurd (cc e)
    by (Some held) e =
        let same : telling_of a.from a.token q.path way at true held ≡ u = cc e in
        ap (λ (z : Telling). z.registers) (sym same)

pub record NotifiedBy (s : Own) (c : Call) (u : Telling) : Type 0 where
  pub told : Notice
  pub here : notice c ≡ Some told
  pub to : told.observer.to ≡ u.to
  pub token : told.observer.token ≡ u.token
  pub held : Held
  pub holds : s.store.holds told.observer.path ≡ Some held
  pub version : u.version ≡ held.version

registers_not : (u : Telling) → u.registers ≡ true → u.registers ≡ false → ⊥
registers_not u is none = cc (is, none)

pub notified_by : (s : Own) (c : Call) (u : Telling) → telling s c ≡ Some u → u.registers ≡ false → NotifiedBy s c u
notified_by s (Ticks now w below room due.Idle passed (Notifies o reply) id answer) u h none =
    by (s.store.holds o.path) refl h
  where
    t : Own
    t = heard s now (ticking s now below room due.Idle)

    by : (held : Option Held) → s.store.holds o.path ≡ held
        → tells o.to o.token o.path (way_of (by_plain t o) id) t.clock false held ≡ Some u
        → NotifiedBy s (Ticks now w below room due.Idle passed (Notifies o reply) id answer) u
    by None is e = absurd (cc e)
    by (Some held) is e =
        let same : telling_of o.to o.token o.path (way_of (by_plain t o) id) t.clock false held ≡ u = cc e in
        record {
          told = record { observer = o; reply = reply };
          here = refl;
          to = ap (λ (z : Telling). z.to) same;
          token = ap (λ (z : Telling). z.token) same;
          held = held;
          holds = is;
          version = ap (λ (z : Telling). z.version) (sym same);
        }
notified_by s (Feeds now from bytes w up (Some p) (Serves q reply left) below) u h none =
    let t : Own = heard s now (incoming s now from bytes up (Some p)) in
    absurd (registers_not u (answer_registers (registers p.0 q reply t.observers) t.clock t.store p.0 q InReply u h)
    none)
notified_by s (Ticks now w below room (due.Ready a) passed (Serves q reply left) id answer) u h none =
    let t : Own = heard s now (ticking s now below room (due.Ready a)) in
    absurd (registers_not u (answer_registers (registers a q reply t.observers) t.clock t.store a q (InCon id) u h)
    none)
notified_by s _ u h none = absurd (cc h)
