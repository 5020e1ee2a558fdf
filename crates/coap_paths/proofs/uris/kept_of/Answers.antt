use Rattle.std.proofs.Common.{◌≡◌, ◌∙◌, ◌∷◌, [], All, ap, arith, inr, length, map, refl, subst, sym, true, true≢false}
use Rattle.std.proofs.Common.{fold}
use Rattle.std.specs.Str.Iter.{split_text, split_has_more, split_pattern}
use Rattle.std.proofs.lemmas.Iterator.Consumers.{YieldsList-turn, YieldsList-end}
use Rattle.std.proofs.lemmas.Iterator.Splits.{YieldsList-from_str_split}
use Rattle.std.proofs.lemmas.List.{map_push}
use Rattle.std.proofs.lemmas.List.Elements.{All-append, All-cons, All-nil}
use Rattle.coap_paths.specs.Escapes.{is_escaped}
use Rattle.coap_paths.specs.Uris.{ends_in_dots, keeps, resolved}
use Rattle.coap_paths.proofs.KeptParts.{closed_dots, closed_plain, dots_more, kept_more, resolved_each}
use Rattle.coap_paths.proofs.uris.kept_of.Goals as goal

pub returns-then-not-is_escaped-clause-refused : goal.returns-then-not-is_escaped-clause-refused
returns-then-not-is_escaped-clause-refused g c =
    let same = c.into_iter-part-iterator.ensures.into_iter_gives in
    let turn = YieldsList-turn (YieldsList-from_str_split 47 c.args.text.now (omega arith)
    (ap split_text same ∙ c.split-part-items.ensures.text)
    (ap split_has_more same ∙ c.split-part-items.ensures.has_more)
    (ap split_pattern same ∙ c.split-part-items.ensures.pattern))
    c.loop-part.yielded _ c.loop-part.yielded_by _ _ c.in-Some.part c.in-Some.is c.next.ensures.steps in
    inr (
      refl,
      λ each. true≢false
          (sym (each (length c.loop-part.yielded) c.in-Some.part.now turn.0) ∙ ap is_escaped (sym turn.1)
          ∙ ap is_escaped (sym c.as_bytes.ensures.value) ∙ sym c.is_escaped.ensures ∙ c.if-not-is_escaped.true),
    )

pub loop-part-preserved : goal.loop-part-preserved
loop-part-preserved g c =
    let inv = c.loop-part.invariant in
    let so_far = map (λ s. s.now) c.loop-part.yielded in
    let more = map_push (λ s. s.now) c.loop-part.yielded c.in-Some.part in
    let one : is_escaped c.in-Some.part.now ≡ true =
    ap is_escaped (sym c.as_bytes.ensures.value) ∙ sym c.is_escaped.ensures ∙ c.if-not-is_escaped.false in
    record {
      kept = c.in_ok-keep.ensures ∙ ap (λ k. keeps k c.in-Some.part.now) inv.kept
          ∙ sym (kept_more so_far c.in-Some.part.now) ∙ ap (fold keeps []) (sym more);
      dots = c.is_dots-ends_in_dots.ensures ∙ sym (dots_more so_far c.in-Some.part.now) ∙ ap ends_in_dots (sym more);
      escaped = subst (All (λ s. is_escaped s ≡ true)) (sym more)
          (All-append (λ s. is_escaped s ≡ true) so_far (c.in-Some.part.now ∷ []) inv.escaped
          (All-cons (λ s. is_escaped s ≡ true) c.in-Some.part.now [] one (All-nil (λ s. is_escaped s ≡ true))));
    }

pub returns-then-ends_in_dots-clause-kept : goal.returns-then-ends_in_dots-clause-kept
returns-then-ends_in_dots-clause-kept g c =
    let inv = c.loop-part.invariant in
    let all = (YieldsList-end (YieldsList-from_str_split 47 c.args.text.now (omega arith)
    (ap split_text c.into_iter-part-iterator.ensures.into_iter_gives ∙ c.split-part-items.ensures.text)
    (ap split_has_more c.into_iter-part-iterator.ensures.into_iter_gives ∙ c.split-part-items.ensures.has_more)
    (ap split_pattern c.into_iter-part-iterator.ensures.into_iter_gives ∙ c.split-part-items.ensures.pattern))
    c.loop-part.yielded _ c.loop-part.yielded_by _ _ c.in-None.is c.next.ensures.steps).0 in
    ap (map (λ s. s.now)) c.in_ok-add.ensures ∙ map_push (λ s. s.now) c.loop-part.kept.items _
    ∙ closed_dots (map (λ s. s.now) c.loop-part.yielded) _ _ inv.kept inv.dots c.if-ends_in_dots.true ∙ ap resolved all

pub returns-then-ends_in_dots-clause-escaped : goal.returns-then-ends_in_dots-clause-escaped
returns-then-ends_in_dots-clause-escaped g c =
    let all = (YieldsList-end (YieldsList-from_str_split 47 c.args.text.now (omega arith)
    (ap split_text c.into_iter-part-iterator.ensures.into_iter_gives ∙ c.split-part-items.ensures.text)
    (ap split_has_more c.into_iter-part-iterator.ensures.into_iter_gives ∙ c.split-part-items.ensures.has_more)
    (ap split_pattern c.into_iter-part-iterator.ensures.into_iter_gives ∙ c.split-part-items.ensures.pattern))
    c.loop-part.yielded _ c.loop-part.yielded_by _ _ c.in-None.is c.next.ensures.steps).0 in
    subst (All (λ s. is_escaped s ≡ true)) all c.loop-part.invariant.escaped

pub returns-then-ends_in_dots-clause-each : goal.returns-then-ends_in_dots-clause-each
returns-then-ends_in_dots-clause-each g c =
    let inv = c.loop-part.invariant in
    subst (All (λ s. is_escaped s ≡ true))
    (sym (ap (map (λ s. s.now)) c.in_ok-add.ensures ∙ map_push (λ s. s.now) c.loop-part.kept.items _
    ∙ closed_dots (map (λ s. s.now) c.loop-part.yielded) _ _ inv.kept inv.dots c.if-ends_in_dots.true))
    (resolved_each (λ s. is_escaped s ≡ true) (map (λ s. s.now) c.loop-part.yielded) inv.escaped refl)

pub returns-clause-kept : goal.returns-clause-kept
returns-clause-kept g c =
    let inv = c.loop-part.invariant in
    let all = (YieldsList-end (YieldsList-from_str_split 47 c.args.text.now (omega arith)
    (ap split_text c.into_iter-part-iterator.ensures.into_iter_gives ∙ c.split-part-items.ensures.text)
    (ap split_has_more c.into_iter-part-iterator.ensures.into_iter_gives ∙ c.split-part-items.ensures.has_more)
    (ap split_pattern c.into_iter-part-iterator.ensures.into_iter_gives ∙ c.split-part-items.ensures.pattern))
    c.loop-part.yielded _ c.loop-part.yielded_by _ _ c.in-None.is c.next.ensures.steps).0 in
    closed_plain (map (λ s. s.now) c.loop-part.yielded) _ _ inv.kept inv.dots c.if-ends_in_dots.false ∙ ap resolved all

pub returns-clause-escaped : goal.returns-clause-escaped
returns-clause-escaped g c =
    let all = (YieldsList-end (YieldsList-from_str_split 47 c.args.text.now (omega arith)
    (ap split_text c.into_iter-part-iterator.ensures.into_iter_gives ∙ c.split-part-items.ensures.text)
    (ap split_has_more c.into_iter-part-iterator.ensures.into_iter_gives ∙ c.split-part-items.ensures.has_more)
    (ap split_pattern c.into_iter-part-iterator.ensures.into_iter_gives ∙ c.split-part-items.ensures.pattern))
    c.loop-part.yielded _ c.loop-part.yielded_by _ _ c.in-None.is c.next.ensures.steps).0 in
    subst (All (λ s. is_escaped s ≡ true)) all c.loop-part.invariant.escaped

pub returns-clause-each : goal.returns-clause-each
returns-clause-each g c =
    let inv = c.loop-part.invariant in
    subst (All (λ s. is_escaped s ≡ true))
    (sym (closed_plain (map (λ s. s.now) c.loop-part.yielded) _ _ inv.kept inv.dots c.if-ends_in_dots.false))
    (resolved_each (λ s. is_escaped s ≡ true) (map (λ s. s.now) c.loop-part.yielded) inv.escaped refl)
