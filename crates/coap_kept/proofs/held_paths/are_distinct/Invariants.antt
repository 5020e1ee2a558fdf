use Rattle.std.proofs.Common.{length}
use Rattle.coap_kept.specs.Holding.{AreDistinct}
use Rattle.coap_kept.proofs.held_paths.are_distinct.Given as goal

-- all are, if those are that are left
abbrev pub invariant-loop-rest : goal.invariant-loop-rest
invariant-loop-rest l = AreDistinct l.rest → AreDistinct l.fn.paths

abbrev pub decreases-loop-rest : goal.decreases-loop-rest
decreases-loop-rest l = length l.rest
