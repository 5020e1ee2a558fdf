-- What a server gives to be sent is the first of what waits; where nothing waits, nothing changes.
use Rattle.std.proofs.Common.{◌≡◌, Option, Some, None, IfSome, IfNone, [], ◌∷◌, ap, subst, ◌∙◌}
use Rattle.coap_layer.specs.Machine.State as S
use Rattle.coap_layer.specs.Trace as L
use Rattle.coap_exchange.specs.AnswererLaw as X
use Rattle.coap_server.specs.Trace.{Own, NextOut}
use Rattle.coap_server.specs.Led.{State, Step}
use Rattle.coap_server.specs.Turns.Work.{WasLed}
use Rattle.coap_exchange.proofs.Facts.FirstOut.{layer_empty, layer_none, layer_some, only_live}

module _ (old new : State) where
  layer_step : (answer : Option L.Packet) → Step old (NextOut answer) new
      → S.Step old.layer 0 L.Take (L.Gives answer) new.layer
  layer_step answer step =
      let under = step.under in
      let taken = under.2.under in
      let same : taken.0 ≡ old.layer = taken.1 ∙ ap (λ (s : X.State). s.layer) under.1 in
      subst (λ s. S.Step s 0 L.Take (L.Gives answer) new.layer) same taken.2

  pub takes_first : (p : L.Packet) → Step old (NextOut (Some p)) new → old.layer.queue ≡ p ∷ new.layer.queue
  takes_first p step = layer_some old.layer new.layer p (layer_step (Some p) step)

  pub takes_none : WasLed old → Step old (NextOut None) new → (old.layer.queue ≡ []) × (new ≡ old)
  takes_none (limits, szx, setup, t, led) step =
      let one = layer_step None step in
      let layer : new.layer ≡ old.layer = layer_none old.layer new.layer
      (only_live setup _ old.layer led.exchanges.layer) one in
      let own : new.own ≡ old.own = step.own_is in (
        layer_empty old.layer new.layer one,
        ap (λ (o : Own). record new { own = o }) own ∙ ap (λ (l : S.State). record old { layer = l }) layer,
      )

-- .. as contracts say it
pub if_none : (r : Option L.Packet) (old new : State) → WasLed old → Step old (NextOut r) new
    → IfNone r ((old.layer.queue ≡ []) × (new ≡ old))
if_none None old new led step = takes_none old new led step
if_none (Some p) old new led step = tt

pub if_some : (r : Option L.Packet) (old new : State) → Step old (NextOut r) new
    → IfSome r (λ p. old.layer.queue ≡ p ∷ new.layer.queue)
if_some None old new step = tt
if_some (Some p) old new step = takes_first old new p step
