use Rattle.std.proofs.Common.{[], ◌∷◌, codes, refl, lit≤}
use Rattle.coap_json.specs.Objects.{whole}
use Rattle.coap_json.proofs.Lines.{told_is_line}
use Rattle.coap_json.proofs.others.gave_up_line.Goals as goal

pub returns : goal.returns
returns g c =
    told_is_line _ c.end.result _ _ _ _ c.args.at.0 _ (codes "gave-up")
    ((codes "seconds", whole c.args.seconds) ∷ []) refl c.in_ok-writer.ensures.before
    c.in_ok-writer.ensures.tokens c.in_ok-add_whole.ensures.before c.in_ok-add_whole.ensures.tokens
    (lit≤ tt) c.end.ensures
