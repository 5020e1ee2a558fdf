-- What it means that calls lead to a layer.
use Rattle.coap_layer.specs.Trace.{Setup}
use Rattle.std.specs.Prelude.{◌≡◌, List}
use Rattle.coap_layer.specs.Trace.{Entry}
use Rattle.coap_layer.specs.Machine.State.{State, history, forgotten}
use Rattle.coap_layer.specs.Rows.{LayerLaw}

-- these calls of a layer that began so can leave it so: they stand in the law, and what is kept is what
-- they add up to
pub record LayerLed (setup : Setup) (trace : List Entry) (s : State) : Type 0 where
  pub law : LayerLaw setup trace
  pub kept : s ≡ forgotten (history setup trace)
