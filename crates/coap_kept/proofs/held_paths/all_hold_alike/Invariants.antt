use Rattle.std.proofs.Common.{length}
use Rattle.coap_resource.specs.Entries.{content_of}
use Rattle.coap_server.specs.Object.Shown.{state_of}
use Rattle.coap_kept.specs.Holding.{AreHeldAlike}
use Rattle.coap_kept.proofs.held_paths.all_hold_alike.Given as goal

-- all are held alike, if those are that are left
abbrev pub invariant-loop-rest : goal.invariant-loop-rest
invariant-loop-rest g l =
    let old = state_of content_of l.fn.old in
    let new = state_of content_of l.fn.new in
    AreHeldAlike old new l.rest → AreHeldAlike old new l.fn.paths

abbrev pub decreases-loop-rest : goal.decreases-loop-rest
decreases-loop-rest g l = length l.rest
