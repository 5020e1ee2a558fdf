use Rattle.std.proofs.Common.{◌∙◌, ◌++◌, sym, ap, map}
use Rattle.coap_paths.specs.Escapes.{unescaped}
use Rattle.coap_paths.specs.PathTexts.{parts, segments_in}
use Rattle.coap_paths.proofs.PathParts.{all_of, one_read, last_read, spells_some}
use Rattle.coap_paths.proofs.reading.path_of.Goals as goal

pub segments-preserved : goal.segments-preserved
segments-preserved g c =
    ap (λ p. p ++ map unescaped (parts c.in-Some.after.now)) (c.push_part.ensures c.if-not-push_part.false)
    ∙ one_read c.segments.path _ c.segments.left.now c.in-Some.segment.now c.in-Some.after.now c.segments.invariant
    c.in-Some.ensures.cut

pub returns-clause-spelled : goal.returns-clause-spelled
returns-clause-spelled g c =
    let rest = c.without_slash-rest in
    c.push_part-2.ensures c.if-not-push_part-2.false
    ∙ (last_read c.segments.path _ c.segments.left.now c.segments.invariant c.in_default.ensures.none
    ∙ (sym (ap (map unescaped) (all_of rest.result.now c.is_empty.result c.is_empty.ensures c.if-is_empty.false))
    ∙ ap (λ t. map unescaped (segments_in t)) rest.ensures))

pub returns-clause-fits : goal.returns-clause-fits
returns-clause-fits g c =
    let rest = c.without_slash-rest in
    (spells_some rest.result.now _ c.is_empty.result c.is_empty.ensures c.if-is_empty.false rest.ensures
    (c.makes_path.ensures.0 c.if-not-makes_path.false)).0

pub returns-then-not-push_part-clause-memory : goal.returns-then-not-push_part-clause-memory
returns-then-not-push_part-clause-memory g c =
    let rest = c.without_slash-rest in
    λ is. spells_some rest.result.now _ c.is_empty.result c.is_empty.ensures c.if-is_empty.false rest.ensures
    (c.makes_path.ensures.0 c.if-not-makes_path.false)

pub returns-then-not-push_part-2-clause-memory : goal.returns-then-not-push_part-2-clause-memory
returns-then-not-push_part-2-clause-memory g c =
    let rest = c.without_slash-rest in
    λ is. spells_some rest.result.now _ c.is_empty.result c.is_empty.ensures c.if-is_empty.false rest.ensures
    (c.makes_path.ensures.0 c.if-not-makes_path.false)
