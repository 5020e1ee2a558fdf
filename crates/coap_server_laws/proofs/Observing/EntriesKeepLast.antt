-- What an entry keeps of the last CON, of the last change and of the last NON is so on the whole trace (`KeepsLast`),
-- by induction on the calls: EntrySteps and EntryTold say it of each.
use Rattle.std.proofs.Common.{◌≡◌, ℕ, max, Bool, true, false, Option, Some, None, List}
use Rattle.std.proofs.Common.{[], ◌∷◌, refl, ap, sym, ◌∙◌}
use Rattle.coap_types.specs.declared.endpoint.Endpoint.{Endpoint}
use Rattle.coap_codec.specs.Message.{Message}
use Rattle.coap_layer.specs.Trace as L
use Rattle.coap_layer.specs.declared.setup.Setup.{Setup}
use Rattle.coap_observe.specs.Observers.{Observer}
use Rattle.coap_resource.specs.Content.{Content, Held}
use Rattle.coap_resource.specs.Limits.{Limits}
use Rattle.coap_resource.specs.Serves.{Reply}
use Rattle.coap_exchange.specs.declared.answerer.Asked.{Asked}
use Rattle.coap_exchange.specs.declared.answerer.Due.{Due}
use Rattle.coap_exchange.specs.declared.answerer.Due.TheVariants as due
use Rattle.coap_exchange.specs.declared.answerer.Ended.{Ended}
use Rattle.coap_exchange.specs.AnswererSteps as P
use Rattle.coap_exchange.specs.AnswererSteps.{unmatched_by}
use Rattle.coap_server.specs.Trace.{Own, Handling, Serves, Notifies, Call, Sets}
use Rattle.coap_server.specs.Trace.{Removes, Feeds, Ticks}
use Rattle.coap_server.specs.Observers.{marked_if, unless_ended}
use Rattle.coap_server.specs.Notifying.{notified}
use Rattle.coap_server.specs.Plain.{by_plain}
use Rattle.coap_server.specs.Handling.{incoming, ticking, heard}
use Rattle.coap_server.specs.Law.{ServerLaw, own_of}
use Rattle.coap_server.specs.Follows.Holds.{change, change_of}
use Rattle.coap_server.specs.Follows.Tells.{registering, telling}
use Rattle.coap_server.specs.Follows.Tells.{tells, way_of}
use Rattle.coap_server.proofs.Facts.Observing.Outcomes.{Came, came, served, Turned, turned, responded, noticed}
use Rattle.coap_server_laws.proofs.Observing.TellsBegin.{told_here}
use Rattle.coap_server.proofs.Facts.Serving.Brought.{server_back}
use Rattle.coap_server_laws.proofs.Observing.EntrySteps as W
use Rattle.coap_server_laws.proofs.Observing.EntryTold as T
use Rattle.coap_server_laws.proofs.Observing.EntrySteps.{none_marked}
use Rattle.coap_server.specs.Trace.{Forgets}

module _ (limits : Limits) (szx : ℕ) (setup : Setup) (to : Endpoint) (token : List ℕ) where
  module _ (t : List Call) where
    abbrev own : Own
    own = own_of limits szx t

    -- a notification
    module _ (now w : ℕ) (below : L.Answer) (room : Bool) (passed id : ℕ) (answer : Bool) (o : Observer) (reply : Reply)
        (law : ServerLaw limits szx setup (Ticks now w below room due.Idle passed (Notifies o reply) id answer ∷ t))
        (keep_last : W.KeepLast limits szx setup to token t) where
      abbrev notice : Call
      notice = Ticks now w below room due.Idle passed (Notifies o reply) id answer

      abbrev s : Own
      s = heard own now (ticking own now below room due.Idle)

      abbrev left : Bool → Option Held → List Observer
      left plain held = notified plain s.clock id held o s.observers

      back : W.Were limits szx setup to token own.observers s.observers
      back = W.ended_back limits szx setup to token (P.failed_by below own.exchanges.separate) own.observers

      told_so : (plain : Bool) → by_plain s o ≡ plain → (held : Option Held) → s.store.holds o.path ≡ held
          → telling own notice ≡ tells o.to o.token o.path (way_of plain id) s.clock false held
      told_so plain goes held is =
          ap (λ b. tells o.to o.token o.path (way_of b id) s.clock false (s.store.holds o.path)) goes
          ∙ ap (tells o.to o.token o.path (way_of plain id) s.clock false) is

      left_so : (plain : Bool) → by_plain s o ≡ plain → (held : Option Held) → s.store.holds o.path ≡ held
          → (own_of limits szx (notice ∷ t)).observers ≡ left plain held
      left_so plain goes held is = ap (λ b. left b (s.store.holds o.path)) goes ∙ ap (left plain) is

      by_way : (plain : Bool) → by_plain s o ≡ plain → (held : Option Held) → s.store.holds o.path ≡ held
          → W.KeepLast limits szx setup to token (notice ∷ t)
      by_way plain goes None is =
          W.quiet_step limits szx setup to token t notice refl (told_so plain goes None is) refl
          (λ y h. back y (W.removed_back limits szx setup to token o.to o.token s.observers y
          (sym (ap (W.reg limits szx setup to token) (left_so plain goes None is)) ∙ h))) keep_last
      by_way false goes (Some held) is =
          let told = told_here limits szx setup t now w below room passed id answer o reply law in
          T.con_step limits szx setup to token t notice o s.clock held id s.observers refl (told_so false goes
          (Some held) is) refl back told.is
          told.marked_is (left_so false goes (Some held) is) keep_last
      by_way true goes (Some held) is =
          let told = told_here limits szx setup t now w below room passed id answer o reply law in
          T.non_step limits szx setup to token t notice o held s.observers refl (told_so true goes
          (Some held) is) refl back told.is
          (left_so true goes (Some held) is) keep_last

      notice_step : W.KeepLast limits szx setup to token (notice ∷ t)
      notice_step = by_way (by_plain s o) refl (s.store.holds o.path) refl

    -- what an arrival and a tick leave besides
    arrival_left_them : (now : ℕ) (from : Endpoint) (bytes : List ℕ) (up : L.Answer) (came : Option (Asked × Message))
        → W.Were limits szx setup to token own.observers (heard own now (incoming own now from bytes up came)).observers
    arrival_left_them now from bytes up came o h =
        let e : Option Ended = P.reset_by from up own.exchanges.separate in
        W.ended_back limits szx setup to token e own.observers o
        (W.rejected_back limits szx setup to token (max own.clock now) (unmatched_by from up)
        (unless_ended e own.observers) o h)

    pub tick_left_them : (now : ℕ) (below : L.Answer) (room : Bool) (d : Due)
        → W.Were limits szx setup to token own.observers (heard own now (ticking own now below room d)).observers
    tick_left_them now below room d = W.ended_back limits szx setup to token (P.failed_by below own.exchanges.separate)
        own.observers

    fed : (now : ℕ) (from : Endpoint) (bytes : List ℕ) (w : ℕ) (up : L.Answer) (c : Option (Asked × Message))
        (h : Handling) (below : L.Answer) → Came (heard own now (incoming own now from bytes up c)) c h
        → ServerLaw limits szx setup (Feeds now from bytes w up c h below ∷ t) → W.KeepLast limits szx setup to token t
        → W.KeepLast limits szx setup to token (Feeds now from bytes w up c h below ∷ t)
    fed now from bytes w up c h below (served p q reply left k unplaced) law keep_last =
        W.served_step limits szx setup to token t (Feeds now from bytes w up (Some p) (Serves q reply left) below) law _
        refl refl keep_last
    fed now from bytes w up c h below _ law keep_last =
        W.quiet_step limits szx setup to token t _ refl refl refl (arrival_left_them now from bytes up c) keep_last

    ticked : (now w : ℕ) (below : L.Answer) (room : Bool) (d : Due) (passed : ℕ) (h : Handling) (id : ℕ)
        (answer : Bool) → Turned (heard own now (ticking own now below room d)) passed d h
        → ServerLaw limits szx setup (Ticks now w below room d passed h id answer ∷ t)
        → W.KeepLast limits szx setup to token t
        → W.KeepLast limits szx setup to token (Ticks now w below room d passed h id answer ∷ t)
    ticked now w below room d passed h id answer (responded a q reply left asks k) law keep_last =
        W.served_step limits szx setup to token t
        (Ticks now w below room (due.Ready a) passed (Serves q reply left) id answer) law _ refl refl keep_last
    ticked now w below room d passed h id answer (noticed o reply found is) law keep_last =
        notice_step now w below room passed id answer o reply law keep_last
    ticked now w below room d passed h id answer _ law keep_last =
        W.quiet_step limits szx setup to token t _ refl refl refl (tick_left_them now below room d) keep_last

    -- .. and a local change
    changed : (c : Call) (at : ℕ) (path : List (List ℕ)) (left : Content)
        → ServerLaw limits szx setup (c ∷ t) → registering own c ≡ None → telling own c ≡ None
        → change own c ≡ change_of path own.store left
        → (own_of limits szx (c ∷ t)).observers ≡ marked_if at path own.store left own.observers
        → W.KeepLast limits szx setup to token t → W.KeepLast limits szx setup to token (c ∷ t)
    changed c at path left law r tell is marks keep_last =
        W.either_step limits szx setup to token t c law r tell
        (λ e o h. sym (ap (W.reg limits szx setup to token)
        (marks ∙ none_marked at path own.store left own.observers (sym is ∙ e))) ∙ h) keep_last

    step : (c : Call) → ServerLaw limits szx setup (c ∷ t) → W.KeepLast limits szx setup to token t
        → W.KeepLast limits szx setup to token (c ∷ t)
    step (Sets now path format body answer left) law keep_last =
        changed (Sets now path format body answer left) (max own.clock now) path left law refl refl refl refl keep_last
    step (Removes now path answer left) law keep_last =
        changed (Removes now path answer left) (max own.clock now) path left law refl refl refl refl keep_last
    step (Feeds now from bytes w up c h below) law keep_last =
        fed now from bytes w up c h below (came (heard own now
        (incoming own now from bytes up c)) c h law.rows.0) law keep_last
    step (Ticks now w below room d passed h id answer) law keep_last =
        ticked now w below room d passed h id answer
        (turned (heard own now (ticking own now below room d)) passed d h law.rows.0.0) law keep_last
    step (Forgets peer) law keep_last =
        W.quiet_step limits szx setup to token t (Forgets peer) refl refl refl
        (W.elsewhere_back limits szx setup to token peer own.observers) keep_last
    step c law keep_last = W.quiet_step limits szx setup to token t c refl refl refl (λ o h. h) keep_last

  pub keep_last : (t : List Call) → ServerLaw limits szx setup t → W.KeepLast limits szx setup to token t
  keep_last [] law = λ o h. absurd (cc h)
  keep_last (c ∷ t) law = step t c law (keep_last t (server_back limits szx setup c t law))
