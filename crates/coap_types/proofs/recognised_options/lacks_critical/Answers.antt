use Rattle.std.proofs.Common.{rules, [], ◌∷◌, refl}
use Rattle.coap_types.specs.CoapOption.{option_of, options_of}
use Rattle.coap_types.proofs.OneOptionOn.IsRecognised.{options_append}
use Rattle.coap_types.proofs.OneOptionOn.IsSaid.{none_lacks, lacks_more}
use Rattle.coap_types.proofs.recognised_options.lacks_critical.Goals as goal

pub loop-option-init : goal.loop-option-init
loop-option-init g c = (search rules, (search rules, none_lacks _ _ refl))

pub loop-option-preserved : goal.loop-option-preserved
loop-option-preserved g c =
    let so = c.loop-option.invariant.1.1 in
    let before = options_of c.loop-option.yielded in
    let o = option_of c.in-Some.option in
    let numbers = c.see.ensures before o refl so.numbers in (
      search rules,
      (
        search rules,
        rw (options_append c.loop-option.yielded (c.in-Some.option ∷ []))
            (lacks_more _ before o _ _ _ _ so numbers (c.or_critical-bad.ensures before so.numbers)),
      ),
    )
