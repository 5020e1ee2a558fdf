use Rattle.std.proofs.Common.{◌≡◌, ◌∙◌, sym, ap, subst, rules, [], ◌++◌, length, Err}
use Rattle.coap_arguments.specs.PathText.{IsPathText, parts, without_leading_slash}
use Rattle.coap_arguments.proofs.Facts.PathTexts.{not_empty, one_path, passed_up, refused_part, says_parts}
use Rattle.coap_scripts.specs.ScriptRefusals.{of_path}
use Rattle.coap_scripts.proofs.PathWords.{cut_parts, last_part, line_refused, next_part, one_on}
use Rattle.coap_scripts.proofs.script.fields.path.Goals as goal

pub segments-preserved : goal.segments-preserved
segments-preserved g c = (
  ap (λ p. p ++ parts c.in-Some.behind.now) c.in_ok-push.ensures.added
      ∙ one_on c.segments.path _ c.segments.left.now _ _ c.segments.invariant.0 c.in-Some.ensures.cut,
  search rules,
)

pub returns-in_err-push-clause-refused : goal.returns-in_err-push-clause-refused
returns-in_err-push-clause-refused g c =
    let rest = c.without_slash-rest.result.now in
    let some = not_empty rest c.is_empty.result c.is_empty.ensures c.if-is_empty.false in
    let e = c.in_err-push.field-0.0 in
    let at = next_part c.segments.path _ (parts rest) c.in-Some.segment.now
    (ap (λ ps. c.segments.path ++ ps) (sym (cut_parts c.segments.left.now _ _ c.in-Some.ensures.cut))
    ∙ c.segments.invariant.0) in
    passed_up c.from_residual.result (of_path e) _ c.from_residual.ensures.1
    (line_refused e c.args.word.now
    (refused_part c.args.word.now rest c.without_slash-rest.ensures some e
    (length c.segments.path) c.in-Some.segment.now at.0 at.1
    (λ same. c.push.ensures.too_long.0 (c.in_err-push.was ∙ ap Err same))
    (λ same. (c.push.ensures.too_many.0 (c.in_err-push.was ∙ ap Err same)).1)))

pub returns-in_err-push-2-clause-refused : goal.returns-in_err-push-2-clause-refused
returns-in_err-push-2-clause-refused g c =
    let rest = c.without_slash-rest.result.now in
    let some = not_empty rest c.is_empty.result c.is_empty.ensures c.if-is_empty.false in
    let e = c.in_err-push-2.field-0.0 in
    let at = next_part c.segments.path [] (parts rest) c.segments.left.now
    (ap (λ ps. c.segments.path ++ ps) (sym (last_part c.segments.left.now c.in_default.ensures.none))
    ∙ c.segments.invariant.0) in
    passed_up c.from_residual-in_err-push-2.result (of_path e) _ c.from_residual-in_err-push-2.ensures.1
    (line_refused e c.args.word.now
    (refused_part c.args.word.now rest c.without_slash-rest.ensures some e
    (length c.segments.path) c.segments.left.now at.0 at.1
    (λ same. c.push-2.ensures.too_long.0 (c.in_err-push-2.was ∙ ap Err same))
    (λ same. (c.push-2.ensures.too_many.0 (c.in_err-push-2.was ∙ ap Err same)).1)))

pub returns-clause-said : goal.returns-clause-said
returns-clause-said g c =
    let rest = c.without_slash-rest.result.now in
    let some = not_empty rest c.is_empty.result c.is_empty.ensures c.if-is_empty.false in
    let whole : c.push-2.new.self ≡ parts rest = c.in_ok-push-2.ensures.added
    ∙ ap (λ ps. c.segments.path ++ ps) (sym (last_part c.segments.left.now c.in_default.ensures.none))
    ∙ c.segments.invariant.0 in (
      subst (IsPathText c.args.word.now) (sym whole)
          (says_parts c.args.word.now rest c.without_slash-rest.ensures some),
      search rules,
    )

pub returns-clause-only : goal.returns-clause-only
returns-clause-only g c = λ segments says.
    let rest = c.without_slash-rest.result.now in
    let some = not_empty rest c.is_empty.result c.is_empty.ensures c.if-is_empty.false in
    let whole : c.push-2.new.self ≡ parts rest = c.in_ok-push-2.ensures.added
    ∙ ap (λ ps. c.segments.path ++ ps) (sym (last_part c.segments.left.now c.in_default.ensures.none))
    ∙ c.segments.invariant.0 in
    one_path (without_leading_slash c.args.word.now) segments c.push-2.new.self says
    (subst (IsPathText c.args.word.now) (sym whole)
    (says_parts c.args.word.now rest c.without_slash-rest.ensures some))
