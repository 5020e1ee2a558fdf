use Rattle.std.proofs.Common.{subst}
use Rattle.coap_layer.specs.Machine.Load.{IsLayerLoad}
use Rattle.coap_exchange.specs.Machine.AskerShown.{Shown}
use Rattle.coap_exchange.proofs.asker.Asker.load.Goals as goal

pub returns : goal.returns
returns g c = subst (λ (a : Shown). IsLayerLoad c.args.now.0 c.load.result a.state.layer) c.self.view_is c.load.ensures
