use Rattle.std.proofs.Common.{◌≡◌, ◌∙◌, sym, ap, arith, length, Err, subst, ◌<◌, ◌≤◌}
use Rattle.std.proofs.lemmas.List.{length-map}
use Rattle.std.proofs.lemmas.Iterator.Consumers.{YieldsList-turn, YieldsList-end}
use Rattle.std.proofs.lemmas.Iterator.Splits.{YieldsList-from_str_split}
use Rattle.std.proofs.lemmas.Str.Pattern.{strip_prefix_char}
use Rattle.std.specs.Str.Iter.{split_text, split_has_more, split_pattern}
use Rattle.coap_arguments.specs.PathText.{IsPathText, without_leading_slash}
use Rattle.coap_arguments.proofs.Facts.PathTexts.{not_empty, one_path, passed_up, refused_part, rest_is, says_parts}
use Rattle.coap_arguments.proofs.path_text.path_of_text.Goals as goal

pub returns-in_err-push-clause-refused : goal.returns-in_err-push-clause-refused
returns-in_err-push-clause-refused c =
    let rest = c.unwrap_or-rest.result.now in
    let is : rest ≡ without_leading_slash c.args.text.now = ap (λ s. s.now) c.unwrap_or-rest.ensures
    ∙ rest_is c.args.text c.strip_prefix.result
    (strip_prefix_char 47 c.args.text.now c.strip_prefix.result c.strip_prefix.ensures.cases (omega arith)) in
    let same = c.into_iter-segment-iterator.ensures.into_iter_gives in
    let turn = YieldsList-turn (YieldsList-from_str_split 47 rest (omega arith)
    (ap split_text same ∙ c.split-segment-items.ensures.text)
    (ap split_has_more same ∙ c.split-segment-items.ensures.has_more)
    (ap split_pattern same ∙ c.split-segment-items.ensures.pattern))
    c.loop-segment.yielded _ c.loop-segment.yielded_by _ _ c.in-Some.segment c.in-Some.is c.next.ensures.steps in
    let some = not_empty rest c.is_empty.result c.is_empty.ensures c.if-is_empty.false in
    let e = c.in_err-push.field-0.0 in
    let i = length c.loop-segment.yielded in
    let bytes = c.as_bytes.ensures.value in
    let many : 16 ≤ length c.loop-segment.path → 16 ≤ i = λ h. let len : length c.loop-segment.path
    ≡ i = ap length c.loop-segment.invariant.0 ∙ length-map c.loop-segment.yielded (λ s. s.now) in omega arith in
    passed_up c.from_residual.result e _ c.from_residual.ensures.1
    (refused_part c.args.text.now rest is some e i c.in-Some.segment.now turn.0 turn.1
    (λ same. subst (λ s. 255 < length s) bytes (c.push.ensures.too_long.0 (c.in_err-push.was ∙ ap Err same)))
    (λ same. many (c.push.ensures.too_many.0 (c.in_err-push.was ∙ ap Err same)).1))

pub returns : goal.returns
returns c =
    let rest = c.unwrap_or-rest.result.now in
    let is : rest ≡ without_leading_slash c.args.text.now = ap (λ s. s.now) c.unwrap_or-rest.ensures
    ∙ rest_is c.args.text c.strip_prefix.result
    (strip_prefix_char 47 c.args.text.now c.strip_prefix.result c.strip_prefix.ensures.cases (omega arith)) in
    let same = c.into_iter-segment-iterator.ensures.into_iter_gives in
    let all = YieldsList-end (YieldsList-from_str_split 47 rest (omega arith)
    (ap split_text same ∙ c.split-segment-items.ensures.text)
    (ap split_has_more same ∙ c.split-segment-items.ensures.has_more)
    (ap split_pattern same ∙ c.split-segment-items.ensures.pattern))
    c.loop-segment.yielded _ c.loop-segment.yielded_by _ _ c.in-None.is c.next.ensures.steps in
    let inv = c.loop-segment.invariant in
    let some = not_empty rest c.is_empty.result c.is_empty.ensures c.if-is_empty.false in
    let said : IsPathText c.args.text.now c.loop-segment.path =
    subst (IsPathText c.args.text.now) (sym (inv.0 ∙ all.0)) (says_parts c.args.text.now rest is some) in
    record {
      ok = (said, inv.1);
      only = λ segments says. one_path
          (without_leading_slash c.args.text.now) segments c.loop-segment.path says said;
      refused = tt;
    }
