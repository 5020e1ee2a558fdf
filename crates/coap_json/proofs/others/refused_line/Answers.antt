use Rattle.std.proofs.Common.{[], ◌∷◌, codes, refl, lit≤}
use Rattle.coap_json.specs.Objects.{whole}
use Rattle.coap_client.specs.RefusalNumbers.{call_refusal_number}
use Rattle.coap_json.proofs.Lines.{told_is_line}
use Rattle.coap_json.proofs.others.refused_line.Goals as goal

pub returns : goal.returns
returns g c =
    told_is_line _ c.end.result _ _ _ _ c.args.at.0 _ (codes "refused")
    ((codes "number", whole (call_refusal_number c.args.refusal)) ∷ []) refl c.in_ok-writer.ensures.before
    c.in_ok-writer.ensures.tokens c.in_ok-add_number.ensures.before c.in_ok-add_number.ensures.tokens
    (lit≤ tt) c.end.ensures
