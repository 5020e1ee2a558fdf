use Rattle.std.proofs.Common.{take}
use Rattle.coap_resource.specs.Entries.{content_of}
use Rattle.coap_server.specs.Object.Shown.{state_of}
use Rattle.coap_serving.specs.Kept.{HoldsEach}
use Rattle.coap_serving.proofs.missing_paths.hold_each.Given as goal

-- so far it holds the first of them
abbrev pub invariant-loop-held : goal.invariant-loop-held
invariant-loop-held g l =
    HoldsEach l.fn.at.0 (take l.held-index l.holds) (state_of content_of l.fn.journaled.end)
    (state_of content_of l.journaled.end)
