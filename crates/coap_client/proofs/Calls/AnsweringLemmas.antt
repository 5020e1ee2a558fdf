-- What the answer to the request of the operation that runs makes of a client.
use Rattle.std.proofs.Common.{◌≡◌, ℕ, Some, None, ap, sym, ◌∙◌, subst, refl}
use Rattle.std.proofs.lemmas.List.{append-nil}
use Rattle.coap_codec.specs.Message.{Message}
use Rattle.coap_exchange.specs.AskerLaw as X
use Rattle.coap_client.specs.Trace.{Cancelled}
use Rattle.coap_client.specs.Own.{Cancelling, Dropped, Own}
use Rattle.coap_client.specs.Effects.{ends, stays}
use Rattle.coap_client.specs.Events.{answered}
use Rattle.coap_client.specs.Observing.{is_over}
use Rattle.coap_client.specs.Steps.{reporting}
use Rattle.coap_client.specs.Object.Happens.{Happens, IsDone, left}
use Rattle.coap_client.proofs.Facts.Calls.Happening.{deed_happens, over_quiet, rests_happens}

module _ (x : X.State) (s : Own) (at word : ℕ) (m : Message) where
  pub answered_none : (own : Own) → s.running ≡ None → own ≡ record s { running = None }
      → Happens x (answered s at m s.running) at word None (left own x)
  answered_none own none is =
      subst (λ r. Happens x (answered s at m r) at word None (left own x)) (sym none)
      (rests_happens x (stays s) at word own refl
      (is ∙ (ap (λ r. record s { running = r }) (sym none)
      ∙ ap (λ rs. record s { reports = rs }) (sym (append-nil s.reports)))))

  pub answered_dropped : (own : Own) → s.running ≡ Some Dropped → own ≡ record s { running = None }
      → Happens x (answered s at m s.running) at word None (left own x)
  answered_dropped own some is =
      subst (λ r. Happens x (answered s at m r) at word None (left own x)) (sym some)
      (rests_happens x (ends None s) at word own refl
      (is ∙ ap (λ rs. record s { running = None; reports = rs }) (sym (append-nil s.reports))))

  pub answered_cancelling : (number : ℕ) (y : X.State) (own : Own) → s.running ≡ Some (Cancelling number)
      → IsDone x (is_over number Cancelled (record s { running = None })).deed y
      → own ≡ reporting (is_over number Cancelled (record s { running = None }))
      → Happens x (answered s at m s.running) at word None (left own y)
  answered_cancelling number y own some done is =
      subst (λ o. Happens x (answered s at m o) at word None (left own y)) (sym some)
      (deed_happens x y (is_over number Cancelled (record s { running = None })) at word own
      (over_quiet number Cancelled (record s { running = None })) done is)
