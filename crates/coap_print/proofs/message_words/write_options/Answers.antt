use Rattle.std.proofs.Common.{rules, ◌∷◌, [], ◌++◌, ◌∙◌, ap, sym, subst}
use Rattle.std.proofs.lemmas.Grind.{put_two}
use Rattle.std.proofs.lemmas.List.{append_assoc}
use Rattle.std.specs.Fmt.{HasWritten}
use Rattle.coap_types.specs.CoapOption.{option_of}
use Rattle.coap_print.specs.Datagrams.{is_listed}
use Rattle.coap_print.proofs.WrittenOptions.{more_listed, same_listed}
use Rattle.coap_print.proofs.message_words.write_options.Goals as goal

pub loop-option-preserved-in-Continue-1 : goal.loop-option-preserved-in-Continue-1
loop-option-preserved-in-Continue-1 g c =
    let so_far = c.loop-option.invariant in
    let o = option_of c.in-Some.option in (
      so_far.0 ++ o ∷ [],
      append_assoc so_far.0 (o ∷ []) c.next.new.self ∙ ap (λ rest. so_far.0 ++ rest) (sym c.in-Some.ensures.steps)
          ∙ so_far.1,
      λ plain. put_two _ _ _ _ _ _ _ (so_far.2 plain) (search rules) (more_listed c.args.message.now.code so_far.0 o
          (sym (c.is_listed.ensures ∙ ap (λ code. is_listed code o) c.code-code.ensures) ∙ c.if-is_listed.true)),
    )

pub loop-option-preserved : goal.loop-option-preserved
loop-option-preserved g c =
    let so_far = c.loop-option.invariant in
    let o = option_of c.in-Some.option in (
      so_far.0 ++ o ∷ [],
      append_assoc so_far.0 (o ∷ []) c.next.new.self ∙ ap (λ rest. so_far.0 ++ rest) (sym c.in-Some.ensures.steps)
          ∙ so_far.1,
      λ plain. subst (λ text. HasWritten g.W.Write.write_str_gives c.args.f.now text c.loop-option.f)
          (same_listed c.args.message.now.code so_far.0 o
          (sym (c.is_listed.ensures ∙ ap (λ code. is_listed code o) c.code-code.ensures) ∙ c.if-is_listed.false))
          (so_far.2 plain),
    )
