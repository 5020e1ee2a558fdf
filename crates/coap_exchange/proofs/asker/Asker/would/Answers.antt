use Rattle.std.proofs.Common.{◌≡◌, subst}
use Rattle.coap_layer.specs.Machine.Would.{would_of}
use Rattle.coap_exchange.specs.Machine.AskerShown.{Shown}
use Rattle.coap_exchange.proofs.asker.Asker.would.Goals as goal

pub returns : goal.returns
returns g c = subst (λ (a : Shown). c.would.result ≡ would_of a.state.layer c.args.now.0 c.args.from c.args.bytes.now)
    c.self.view_is c.would.ensures
