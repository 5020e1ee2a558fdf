use Rattle.std.proofs.Common.{refl, ap, ◌∙◌}
use Rattle.coap_server.specs.Object.Shown.{Kept}
use Rattle.coap_server.proofs.server.Server.get.Goals as goal

pub returns : goal.returns
returns g c = record {
  step = record {
    right = c.get.ensures.held
        ∙ ap (λ (k : Kept _). (g.S.Store.content k.store).holds c.args.path.now) c.self.view_is;
    own_is = refl;
    under = refl;
  };
}
