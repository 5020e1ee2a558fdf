use Rattle.std.proofs.Common.{length}
use Rattle.coap_layer.specs.Machine.Chains.{LeadsOn}
use Rattle.coap_layer.proofs.dedup.log.follow.Given as goal

abbrev pub invariant-back : goal.invariant-back
invariant-back g l = LeadsOn g.K.PartialEq.eq l.key l.first l.passed l.pages.items (length l.pages.items) l.from l.bound
    l.place

abbrev pub decreases-back : goal.decreases-back
decreases-back g l = l.bound
