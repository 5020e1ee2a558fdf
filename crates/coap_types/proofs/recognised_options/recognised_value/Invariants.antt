use Rattle.std.specs.Prelude.{option_copied}
use Rattle.coap_types.specs.CoapOption.{options_of}
use Rattle.coap_types.proofs.OneOptionOn.IsSaid.{Valued}
use Rattle.coap_types.proofs.recognised_options.recognised_value.Given as goal

abbrev pub invariant-loop-option : goal.invariant-loop-option
invariant-loop-option g l =
    (goal.iterator-loop-option g).can_next l.option-iterator
    × ((goal.iterator-loop-option g).is_finite l.option-iterator
    × Valued l.direction l.number (options_of l.yielded) (option_copied l.found) l.again)
