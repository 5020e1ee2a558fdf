use Rattle.std.proofs.Common.{◌≡◌}
use Rattle.coap_options.specs.Critical.{first_unknown}
use Rattle.coap_options.proofs.critical.unknown_critical.Given as goal

abbrev pub invariant-loop-option : goal.invariant-loop-option
invariant-loop-option l = first_unknown l.known l.option-iterator ≡ first_unknown l.known l.initial.option-iterator
