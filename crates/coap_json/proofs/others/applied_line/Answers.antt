use Rattle.std.proofs.Common.{codes, refl}
use Rattle.coap_json.specs.OtherObjects.{applied_fields}
use Rattle.coap_json.proofs.Depths.{applied-depth}
use Rattle.coap_json.proofs.Lines.{told_is_line}
use Rattle.coap_json.proofs.others.applied_line.Goals as goal

pub returns : goal.returns
returns g c =
    told_is_line _ c.end.result _ _ _ _ c.args.at.0 _ (codes "applied")
    (applied_fields c.args.method c.args.path.now c.args.version c.args.body.now) refl c.in_ok-writer.ensures.before
    c.in_ok-writer.ensures.tokens c.in_ok-add_applied.ensures.before c.in_ok-add_applied.ensures.tokens
    (applied-depth c.args.method c.args.path.now c.args.version c.args.body.now) c.end.ensures
