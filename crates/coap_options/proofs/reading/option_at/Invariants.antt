use Rattle.std.proofs.Common.{◌≡◌}
use Rattle.std.specs.Prelude.{slice_get}
use Rattle.coap_options.proofs.reading.option_at.Given as goal

abbrev pub invariant-loop-option : goal.invariant-loop-option
invariant-loop-option l = slice_get l.option-iterator l.between ≡ slice_get l.initial.option-iterator l.place
