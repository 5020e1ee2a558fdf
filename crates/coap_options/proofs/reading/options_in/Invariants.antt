use Rattle.std.proofs.Common.{◌≡◌, ◌++◌}
use Rattle.coap_types.specs.CoapOption.{options_of}
use Rattle.coap_options.proofs.reading.options_in.Given as goal

abbrev pub invariant-loop-option : goal.invariant-loop-option
invariant-loop-option g l = options_of l.options.items ++ l.option-iterator ≡ l.initial.option-iterator
