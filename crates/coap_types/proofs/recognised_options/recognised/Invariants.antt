use Rattle.coap_types.specs.CoapOption.{options_of}
use Rattle.coap_types.proofs.OneOptionOn.IsRecognised.{SoFar}
use Rattle.coap_types.proofs.recognised_options.recognised.Given as goal

abbrev pub invariant-loop-option : goal.invariant-loop-option
invariant-loop-option g l =
    (goal.iterator-loop-option g).can_next l.option-iterator
    × ((goal.iterator-loop-option g).is_finite l.option-iterator
    × SoFar l.direction (options_of l.yielded) (options_of l.list.items) l.bad l.seen)
