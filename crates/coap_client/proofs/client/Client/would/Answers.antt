use Rattle.std.proofs.Common.{◌≡◌, ◌∙◌, ℕ, ap, max, subst}
use Rattle.coap_layer.specs.Machine.Would.{would_of}
use Rattle.coap_client.specs.Led.{State}
use Rattle.coap_client.specs.Object.Held.{seen}
use Rattle.coap_client.proofs.client.Client.would.Goals as goal

pub returns : goal.returns
returns g c = subst (λ (s : State). c.would.result ≡ would_of s.layer.layer (max s.own.clock c.args.now.0) c.args.from
    c.args.bytes.now) c.self.view_is
    (c.would.ensures ∙ ap (λ (n : ℕ). would_of (seen c.self.inside.parts).layer.layer n c.args.from c.args.bytes.now)
    c.later-at.ensures)
