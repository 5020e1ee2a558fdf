use Rattle.std.proofs.Common.{codes, refl}
use Rattle.coap_json.specs.LinkObjects.{link_fields}
use Rattle.coap_json.proofs.Depths.{link-depth}
use Rattle.coap_json.proofs.Lines.{told_is_line}
use Rattle.coap_json.proofs.links.link_line.Goals as goal

pub returns : goal.returns
returns g c =
    told_is_line _ c.end.result _ _ _ _ c.args.at.0 _ (codes "link")
    (link_fields c.args.target.now c.args.parameters.now) refl c.in_ok-writer.ensures.before
    c.in_ok-writer.ensures.tokens c.in_ok-add_link.ensures.before c.in_ok-add_link.ensures.tokens
    (link-depth c.args.target.now c.args.parameters.now) c.end.ensures
