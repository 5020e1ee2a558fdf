use Rattle.std.proofs.Common.{rules, ◌∷◌, [], ◌++◌, ◌∙◌, ap, sym, arith, not, subst}
use Rattle.std.proofs.lemmas.Grind.{put_two}
use Rattle.std.proofs.lemmas.List.{append_assoc}
use Rattle.std.specs.Fmt.{HasWritten}
use Rattle.coap_types.specs.CoapOption.{option_of}
use Rattle.coap_print.proofs.WrittenPaths.{is_empty, joined, more_segments, same_segments}
use Rattle.coap_types.specs.RequestPath.{path_of}
use Rattle.coap_print.specs.Segments.{segment_text, slash_if}
use Rattle.coap_print.proofs.message_words.write_path.Goals as goal

pub loop-option-preserved-then-option-eq-URI_PATH : goal.loop-option-preserved-then-option-eq-URI_PATH
loop-option-preserved-then-option-eq-URI_PATH g c =
    let so_far = c.loop-option.invariant in
    let o = option_of c.in-Some.option in
    let more = more_segments so_far.0 o (grind (arith, c.if-option-eq-URI_PATH.true)) in (
      so_far.0 ++ o ∷ [],
      append_assoc so_far.0 (o ∷ []) c.next.new.self ∙ ap (λ rest. so_far.0 ++ rest) (sym c.in-Some.ensures.steps)
          ∙ so_far.1,
      more.0,
      λ plain. put_two _ _ _ _ _ _ _ (so_far.3 plain) (search rules)
          (ap (λ first. joined (path_of so_far.0) ++ (slash_if (not first) ++ segment_text o.value)) so_far.2 ∙ more.1),
    )

pub loop-option-preserved : goal.loop-option-preserved
loop-option-preserved g c =
    let so_far = c.loop-option.invariant in
    let o = option_of c.in-Some.option in
    let same = same_segments so_far.0 o (grind (arith, c.if-option-eq-URI_PATH.false)) in (
      so_far.0 ++ o ∷ [],
      append_assoc so_far.0 (o ∷ []) c.next.new.self ∙ ap (λ rest. so_far.0 ++ rest) (sym c.in-Some.ensures.steps)
          ∙ so_far.1,
      so_far.2 ∙ ap is_empty same,
      λ plain. subst (λ path. HasWritten g.W.Write.write_str_gives c.args.f.now (joined path) c.loop-option.f) same
          (so_far.3 plain),
    )
