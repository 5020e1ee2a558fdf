use Rattle.std.proofs.Common.{◌≡◌, drop}
use Rattle.coap_options.specs.Critical.{is_known}
use Rattle.coap_options.proofs.critical.is_known.Given as goal

abbrev pub invariant-loop-one : goal.invariant-loop-one
invariant-loop-one l = is_known (drop l.one-index l.known) l.number ≡ is_known l.known l.number
