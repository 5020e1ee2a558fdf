use Rattle.std.proofs.Common.{refl}
use Rattle.coap_asking.specs.Watches.{first}
use Rattle.coap_asking.proofs.WatchedCalls.{again_on, ends}
use Rattle.coap_asking.proofs.watching.watch_over.Goals as goal

pub loop-number-init : goal.loop-number-init
loop-number-init g c = (first, refl)

pub loop-number-preserved : goal.loop-number-preserved
loop-number-preserved g c =
    again_on _ _ _ _ _ _ _ _ _ c.observed_next.new.heard _ _ _ c.loop-number.invariant c.in_ok-ended.ensures.next
    c.in_ok-ended.ensures.since
    c.in_default.is

pub returns-in-Some : goal.returns-in-Some
returns-in-Some g c =
    ends _ _ _ _ _ _ _ _ _ c.observed_next.new.heard _ _ _ c.in-Some.status c.loop-number.invariant
    c.in_ok-ended.ensures.next c.in-Some.is
