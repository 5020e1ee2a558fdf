use Rattle.std.proofs.Common.{◌≡◌, length}
use Rattle.coap_paths.specs.Escapes.{is_escaped}
use Rattle.coap_paths.proofs.escapes.is_escaped.Given as goal

abbrev pub invariant-bytes : goal.invariant-bytes
invariant-bytes l = is_escaped l.left ≡ is_escaped l.initial.left

abbrev pub decreases-bytes : goal.decreases-bytes
decreases-bytes l = length l.left
