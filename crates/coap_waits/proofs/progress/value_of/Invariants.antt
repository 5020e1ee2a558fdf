use Rattle.std.proofs.Common.{◌≡◌}
use Rattle.coap_types.specs.OptionValues.{value_of}
use Rattle.coap_waits.proofs.progress.value_of.Given as goal

abbrev pub invariant-loop-option : goal.invariant-loop-option
invariant-loop-option l = value_of l.number l.option-iterator ≡ value_of l.number l.initial.option-iterator
