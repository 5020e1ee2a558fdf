use Rattle.std.proofs.Common.{rules, ◌∙◌, [], ◌∷◌, refl, sym, ap}
use Rattle.coap_types.specs.CoapOption.{option_of, options_of}
use Rattle.coap_types.proofs.OneOptionOn.IsRecognised.{none_yet, one_more, options_append, kept_then, kept_else}
use Rattle.coap_types.proofs.OneOptionOn.IsRecognised.{bad_then, bad_critical, bad_elective}
use Rattle.coap_types.proofs.recognised_options.recognised.Goals as goal
use Rattle.coap_types.proofs.recognised_options.recognised.Goals.{then-is_recognised+in_ok-push}
use Rattle.coap_types.proofs.recognised_options.recognised.Goals.{else-is_recognised+then-option-eq1}
use Rattle.coap_types.proofs.recognised_options.recognised.Goals.{else-is_recognised+else-option-eq1}

pub loop-option-init : goal.loop-option-init
loop-option-init g c = let none = c.new-list.ensures.items
    in (search rules, (search rules, rw none (none_yet _ _ refl)))

pub loop-option-preserved : goal.loop-option-preserved
loop-option-preserved g c =
    let so = c.loop-option.invariant.1.1 in
    let before = options_of c.loop-option.yielded in
    let o = option_of c.in-Some.option in
    let is = c.is_recognised.ensures before (λ low. c.was_seen-again.ensures before so.numbers low) in
    let numbers = c.see.ensures before o refl so.numbers in (
      search rules,
      (
        search rules,
        rw (options_append c.loop-option.yielded (c.in-Some.option ∷ []))
            (elim c.if-is_recognised.branch [
              | then-is_recognised+in_ok-push w ↦
                  let passed = sym is ∙ w.if-is_recognised.true in
                  one_more _ before _ _ _ _ _ _ o so numbers
                  (kept_then _ _ c.in-Some.option _ passed (ap (λ v. v.items) w.list-is ∙ w.in_ok-push.ensures.items))
                  (bad_then _ _ _ _ passed w.bad-is)
              | else-is_recognised+then-option-eq1 w ↦
                  let failed = sym is ∙ w.if-is_recognised.false in
                  one_more _ before _ _ _ _ _ _ o so numbers
                  (kept_else _ _ c.in-Some.option _ failed (ap (λ v. v.items) w.list-is))
                  (bad_critical _ _ _ _ failed w.if-option-eq1.true w.bad-is)
              | else-is_recognised+else-option-eq1 w ↦
                  let failed = sym is ∙ w.if-is_recognised.false in
                  one_more _ before _ _ _ _ _ _ o so numbers
                  (kept_else _ _ c.in-Some.option _ failed (ap (λ v. v.items) w.list-is))
                  (bad_elective _ _ _ _ failed w.if-option-eq1.false w.bad-is)
            ]),
      ),
    )
