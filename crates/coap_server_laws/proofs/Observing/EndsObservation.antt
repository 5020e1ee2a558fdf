-- Of what is told to have ended, the observation ends; no answer of the store asks for a further block.
use Rattle.std.proofs.Common.{◌≡◌, ℕ, max, Bool, true, Option, Some, None, List, [], ◌∷◌, ap, ◌∙◌, cond}
use Rattle.coap_types.specs.declared.endpoint.Endpoint.{Endpoint}
use Rattle.coap_codec.specs.Message.{Message}
use Rattle.coap_layer.specs.Trace as L
use Rattle.coap_layer.specs.declared.setup.Setup.{Setup}
use Rattle.coap_observe.specs.Observers.{Observer, registration, removed}
use Rattle.coap_observe.proofs.Facts.Registrations.{registration-removed}
use Rattle.coap_resource.specs.Limits.{Limits}
use Rattle.coap_exchange.specs.declared.answerer.Asked.{Asked}
use Rattle.coap_exchange.specs.declared.answerer.Due.{Due}
use Rattle.coap_exchange.specs.declared.answerer.Due.TheVariants as due
use Rattle.coap_exchange.specs.declared.answerer.Ended.{Ended}
use Rattle.coap_exchange.specs.declared.separate.Deferred.{Deferred}
use Rattle.coap_exchange.specs.declared.separate.Separate.{Separate}
use Rattle.coap_exchange.specs.AnswererTrace as E
use Rattle.coap_exchange.specs.AnswererSteps as P
use Rattle.coap_exchange.specs.AnswererSteps.{reset_by, failed_by, unmatched_by}
use Rattle.coap_exchange.specs.AnswererLaw as W
use Rattle.coap_server.specs.Trace.{Own, Handling, Silent, Call}
use Rattle.coap_server.specs.Trace.{Feeds, Ticks}
use Rattle.coap_server.specs.Observers.{unless_ended}
use Rattle.coap_server.specs.Handling.{incoming, ticking, heard, HandlesCame}
use Rattle.coap_server.specs.Asks.{answering, responding}
use Rattle.coap_server.specs.Law.{ServerLaw, own_of, lower_of}
use Rattle.coap_server_laws.specs.Follows.Gives.{NoneContinues}
use Rattle.coap_server.specs.Follows.Observes.{ends_in, EndsObservation}
use Rattle.coap_server.proofs.Facts.Serving.Brought.{server_back}
use Rattle.coap_server.proofs.Facts.Observing.Outcomes.{Turned, turned, expired}
use Rattle.coap_server_laws.proofs.Observing.RejectedNons.{gone_stays}
use Rattle.coap_server.proofs.Facts.Serving.ServedNow.{is_serving}
use Rattle.coap_server_laws.proofs.Replying.NoneContinues.{never_continues}
use Rattle.coap_server.proofs.Facts.Exact.FirstRow.{first_row}

-- a Reset hands up no request
reset_came : (from : Endpoint) (up : L.Answer) (came : Option (Asked × Message)) (xs : List Separate) (x : Ended)
    → came ≡ P.handed_up from up → reset_by from up xs ≡ Some x → came ≡ None
reset_came from (L.Becomes (L.Reset id)) came xs x e h = e
reset_came from _ came xs x e h = absurd (cc h)

failed_due : (below : L.Answer) (d : Due) (o : Option Deferred) (room : Bool) (xs : List Separate) (x : Ended)
    → d ≡ P.due_of below o room → failed_by below xs ≡ Some x → d ≡ due.Expired
failed_due (L.Expired to id) d o room xs x e h = e
failed_due _ d o room xs x e h = absurd (cc h)

removes_it : (e : Option Ended) (x : Ended) (os : List Observer) → e ≡ Some x → x.observe ≡ true
    → registration x.to x.token (unless_ended e os) ≡ None
removes_it e x os is o =
    ap (λ z. registration x.to x.token (unless_ended z os)) is
    ∙ (ap (λ b. registration x.to x.token (cond b (removed x.to x.token os) os)) o
    ∙ registration-removed x.to x.token os)

module _ (limits : Limits) (szx : ℕ) (setup : Setup) where
  abbrev own : List Call → Own
  own t = own_of limits szx t

  silent_fed : (t : List Call) (now : ℕ) (from : Endpoint) (bytes : List ℕ) (w : ℕ) (up : L.Answer)
      (came : Option (Asked × Message)) (h : Handling) (below : L.Answer) → came ≡ None
      → HandlesCame (heard (own t) now (incoming (own t) now from bytes up came)) came h → (x : Ended)
      → reset_by from up (own t).exchanges.separate ≡ Some x → x.observe ≡ true
      → registration x.to x.token (own (Feeds now from bytes w up came h below ∷ t)).observers ≡ None
  silent_fed t now from bytes w up None Silent below e right x is o =
      gone_stays x.to x.token (max (own t).clock now) (unmatched_by from up)
      (unless_ended (reset_by from up (own t).exchanges.separate) (own t).observers)
      (removes_it (reset_by from up (own t).exchanges.separate) x (own t).observers is o)
  silent_fed t now from bytes w up (Some p) h below e right x is o = absurd (cc e)
  silent_fed t now from bytes w up None _ below e right x is o = absurd (cc right)

  silent_ticked : (t : List Call) (now w : ℕ) (below : L.Answer) (room : Bool) (d : Due) (passed : ℕ) (h : Handling)
      (id : ℕ) (answer : Bool) → d ≡ due.Expired
      → Turned (heard (own t) now (ticking (own t) now below room d)) passed d h
      → (x : Ended) → failed_by below (own t).exchanges.separate ≡ Some x → x.observe ≡ true
      → registration x.to x.token (own (Ticks now w below room d passed h id answer ∷ t)).observers ≡ None
  silent_ticked t now w below room d passed h id answer e expired x is o =
      removes_it (failed_by below (own t).exchanges.separate) x (own t).observers is o
  silent_ticked t now w below room d passed h id answer e _ x is o = absurd (cc e)

  ends_here : (t : List Call) (c : Call) → ServerLaw limits szx setup (c ∷ t) → (x : Ended) → ends_in (own t) c ≡ Some x
      → x.observe ≡ true → registration x.to x.token (own (c ∷ t)).observers ≡ None
  ends_here t (Feeds now from bytes w up came h below) law x is o =
      let s : Own = own t in
      let first : E.Call = incoming s now from bytes up came in
      let row = first_row setup (answering (heard s now first) came h below) first
      (lower_of limits szx t) law.exchanges in
      silent_fed t now from bytes w up came h below
      (reset_came from up came s.exchanges.separate x row is) law.rows.0 x is o
  ends_here t (Ticks now w below room d passed h id answer) law x is o =
      let s : Own = own t in
      let first : E.Call = ticking s now below room d in
      let row = first_row setup (responding (heard s now first) d passed h w id) first
      (lower_of limits szx t) law.exchanges in
      silent_ticked t now w below room d passed h id answer
      (failed_due below d (P.ready_at (W.own_of (lower_of limits szx t)) (max s.clock now)) room s.exchanges.separate
      x row is) (turned (heard s now first) passed d h law.rows.0.0) x is o
  ends_here t _ law x is o = absurd (cc is)

  pub ends_observation : (t : List Call) → ServerLaw limits szx setup t → EndsObservation limits szx t
  ends_observation [] law = tt
  ends_observation (c ∷ t) law = (
    λ x is o. ends_here t c law x is o,
    ends_observation t (server_back limits szx setup c t law),
  )

  pub none_continues : (t : List Call) → ServerLaw limits szx setup t → NoneContinues limits szx t
  none_continues [] law = tt
  none_continues (c ∷ t) law = (
    λ x is. never_continues x.old (own (c ∷ t)).clock x.question x.reply x.left
        (is_serving (own t) c law.rows.0 x is).serves,
    none_continues t (server_back limits szx setup c t law),
  )
