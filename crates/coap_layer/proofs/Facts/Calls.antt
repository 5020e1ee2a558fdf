-- Several calls lengthen the trace.
use Rattle.coap_layer.specs.Trace.{Setup}
use Rattle.std.proofs.Common.{◌≡◌, List, [], ◌∷◌, ◌++◌, ap, sym, ◌∙◌, subst}
use Rattle.coap_layer.specs.Trace.{Entry}
use Rattle.coap_layer.specs.Machine.State.{State, after, forgotten, made}
use Rattle.coap_layer.specs.Machine.LayerLed.{LayerLed}
use Rattle.coap_layer.specs.Machine.Steps.{Asked, left_after, entries, Steps}
use Rattle.coap_layer.proofs.Machine.Forgetting.{led_step}

pub steps_left : (old : State) (calls : List Asked) (new : State) → Steps old calls new → new ≡ left_after old calls
steps_left old [] new h = h
steps_left old (a ∷ earlier) new h = h.2.new_is
    ∙ ap (λ s. forgotten (after s (made s a.now a.call))) (steps_left old earlier h.0 h.1)

pub led_steps : (setup : Setup) (t : List Entry) (old new : State) (calls : List Asked) → LayerLed setup t old
    → Steps old calls new → LayerLed setup (entries old calls ++ t) new
led_steps setup t old new [] led h = subst (LayerLed setup t) (sym h) led
led_steps setup t old new (a ∷ earlier) led h =
    subst (λ s. LayerLed setup (made s a.now a.call ∷ (entries old earlier ++ t)) new) (steps_left old earlier h.0 h.1)
    (led_step setup (entries old earlier ++ t) h.0 new a.now a.call a.answer
    (led_steps setup t old h.0 earlier led h.1) h.2)
