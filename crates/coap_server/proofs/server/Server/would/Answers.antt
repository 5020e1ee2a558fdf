use Rattle.std.proofs.Common.{◌≡◌, ◌∙◌, ℕ, ap, max, subst}
use Rattle.coap_layer.specs.Machine.Would.{would_of}
use Rattle.coap_server.proofs.server.Server.would.Goals as goal

pub returns : goal.returns
returns g c = subst (λ k. c.would.result ≡ would_of k.exchanges.layer (max k.clock c.args.now.0) c.args.from
    c.args.bytes.now) c.self.view_is
    (c.would.ensures ∙ ap (λ (n : ℕ). would_of c.self.inside.parts.exchanges.state.layer n c.args.from
    c.args.bytes.now) c.later-at.ensures)
