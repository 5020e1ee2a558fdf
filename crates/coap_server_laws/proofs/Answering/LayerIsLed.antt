-- What the message layer keeps is what its calls add up to, and each of its calls has its row.
use Rattle.std.proofs.Common.{List, [], refl, subst}
use Rattle.std.proofs.lemmas.List.{append-nil}
use Rattle.coap_layer.specs.Machine.LayerLed.{LayerLed}
use Rattle.coap_layer.specs.Machine.State as S
use Rattle.coap_layer.proofs.Facts.Calls.{led_steps}
use Rattle.coap_layer.specs.declared.setup.Setup.{Setup}
use Rattle.coap_exchange.specs.AnswererTrace as E
use Rattle.coap_exchange.specs.AnswererLaw as W
use Rattle.coap_exchange.specs.AnswererLaw.{ResponseLaw}

pub layer_led : (setup : Setup) (calls : List E.Call) (law : ResponseLaw setup calls)
    → LayerLed setup (W.below_of setup calls) law.left
layer_led setup calls law =
    subst (λ t. LayerLed setup t law.left) (append-nil (W.below_of setup calls))
    (led_steps setup [] (S.start setup) law.left (W.lower_of calls)
    (record { law = tt; kept = refl }) law.layer)
