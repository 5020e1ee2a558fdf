use Rattle.coap_types.specs.CoapOption.{options_of}
use Rattle.coap_types.proofs.OneOptionOn.IsSaid.{Lacks}
use Rattle.coap_types.proofs.recognised_options.lacks_critical.Given as goal

abbrev pub invariant-loop-option : goal.invariant-loop-option
invariant-loop-option g l =
    (goal.iterator-loop-option g).can_next l.option-iterator
    × ((goal.iterator-loop-option g).is_finite l.option-iterator
    × Lacks l.direction (options_of l.yielded) l.bad l.seen)
