-- What a client gives, to be sent or as a report, is the first of what waits; where nothing waits, nothing changes.
use Rattle.std.proofs.Common.{◌≡◌, List, Option, Some, None, IfSome, IfNone, [], ◌∷◌, drop, sym, ap, subst, ◌∙◌}
use Rattle.std.specs.Option.{option_map}
use Rattle.coap_layer.specs.Machine.State as S
use Rattle.coap_layer.specs.Trace as L
use Rattle.coap_exchange.specs.AskerTrace as E
use Rattle.coap_exchange.specs.AskerLaw as X
use Rattle.coap_exchange.proofs.Facts.ClientSide.{led_exchanged, led_start}
use Rattle.coap_client.specs.Trace.{NextOut, NextReport, Reported}
use Rattle.coap_client.specs.Own.{Own}
use Rattle.coap_client.specs.Law.{lower_of}
use Rattle.coap_client.specs.Led.{State, Step}
use Rattle.coap_client.specs.Object.Happens.{WasLed}
use Rattle.coap_exchange.proofs.Facts.FirstOut.{OnlyLive, behind, layer_empty, layer_none, layer_some, none_wait}
use Rattle.coap_exchange.proofs.Facts.FirstOut.{only_live}

-- datagrams

live : (s : State) → WasLed s → OnlyLive s.layer.layer
live s (server, sizes, setup, t, led) =
    only_live setup _ s.layer.layer (led_exchanged server setup [] (lower_of sizes t)
    (X.fresh_state server setup) s.layer
    (led_start server setup) led.layer).layer

module _ (old new : State) where
  layer_step : (answer : Option L.Packet) → Step old (NextOut answer) new
      → S.Step old.layer.layer 0 L.Take (L.Gives answer) new.layer.layer
  layer_step answer step =
      let under = step.under in
      let taken = under.2.under in
      let same : taken.0 ≡ old.layer.layer = taken.1 ∙ ap (λ (x : X.State). x.layer) under.1 in
      subst (λ s. S.Step s 0 L.Take (L.Gives answer) new.layer.layer) same taken.2

  takes_none : WasLed old → Step old (NextOut None) new → (old.layer.layer.queue ≡ []) × (new ≡ old)
  takes_none led step =
      let one = layer_step None step in
      let layer : new.layer.layer ≡ old.layer.layer = layer_none old.layer.layer new.layer.layer (live old led) one in
      let held : new.layer.own ≡ old.layer.own = step.under.2.own_is ∙ ap (λ (x : X.State). x.own) step.under.1 in
      let exchanges : new.layer ≡ old.layer = ap (λ (o : E.Own). record new.layer { own = o }) held
      ∙ ap (λ (l : S.State). record old.layer { layer = l }) layer in
      let own : new.own ≡ old.own = step.own_is in (
        layer_empty old.layer.layer new.layer.layer one,
        ap (λ (o : Own). record new { own = o }) own ∙ ap (λ (x : X.State). record old { layer = x }) exchanges,
      )

pub if_none : (r : Option L.Packet) (old new : State) → WasLed old → Step old (NextOut r) new
    → IfNone r ((old.layer.layer.queue ≡ []) × (new ≡ old))
if_none None old new led step = takes_none old new led step
if_none (Some p) old new led step = tt

pub if_some : (r : Option L.Packet) (old new : State) → Step old (NextOut r) new
    → IfSome r (λ p. old.layer.layer.queue ≡ p ∷ new.layer.layer.queue)
if_some None old new step = tt
if_some (Some p) old new step = layer_some old.layer.layer new.layer.layer p (layer_step old new (Some p) step)

-- reports

module _ (old new : State) where
  first_report : (r : Reported) → Step old (NextReport (Some r)) new → old.own.reports ≡ r ∷ new.own.reports
  first_report r step = behind old.own.reports r step.right
      ∙ ap (λ rs. r ∷ rs) (sym (ap (λ (s : Own). s.reports) step.own_is))

  no_report : Step old (NextReport None) new → (old.own.reports ≡ []) × (new ≡ old)
  no_report step =
      let none : old.own.reports ≡ [] = none_wait old.own.reports step.right in
      let left : drop 1 old.own.reports ≡ old.own.reports = ap (λ (rs : List Reported). drop 1 rs) none ∙ sym none in
      let own : new.own ≡ old.own = step.own_is ∙ ap (λ (rs : List Reported). record old.own { reports = rs }) left in
      (none, ap (λ (o : Own). record new { own = o }) own ∙ ap (λ (x : X.State). record old { layer = x }) step.under)

module _ {X : Type 0} (f : X → Reported) where
  pub if_no_report : (r : Option X) (old new : State) → Step old (NextReport (option_map f r)) new
      → IfNone r ((old.own.reports ≡ []) × (new ≡ old))
  if_no_report None old new step = no_report old new step
  if_no_report (Some x) old new step = tt

  pub if_report : (r : Option X) (old new : State) → Step old (NextReport (option_map f r)) new
      → IfSome r (λ x. old.own.reports ≡ f x ∷ new.own.reports)
  if_report None old new step = tt
  if_report (Some x) old new step = first_report old new (f x) step
