use Rattle.coap_waits.specs.Linked.{called, here}
use Rattle.coap_waits.proofs.Facts.{goes_join}
use Rattle.coap_asking.proofs.PolledCalls.{left_here, left_on, left_through}
use Rattle.coap_common.proofs.Facts.{none_is, some_is}
use Rattle.coap_asking.proofs.polling.pause.Goals as goal

pub loop-turn-init : goal.loop-turn-init
loop-turn-init g c = record { left = left_here c.args.pending c.args.client.now; over = here }

pub loop-turn-preserved : goal.loop-turn-preserved
loop-turn-preserved g c =
    let link = g.L.Link in
    record {
      left = left_on c.args.pending c.loop-turn.left _ _ _ _ _ c.loop-turn.invariant.left
          (none_is _ _ c.in_ok-now.ensures.asks c.in_default.is)
          c.left_pending-left.ensures.left;
      over = called _ _ _ _
          (goes_join link.sends link.receives link.fault_count _ _ _ _ _ _ c.loop-turn.invariant.over
          c.in_ok-now.ensures.over) c.left_pending-left.ensures.own;
    }

pub returns-in-Some-clause-paused : goal.returns-in-Some-clause-paused
returns-in-Some-clause-paused g c =
    let ended = some_is _ _ c.in-Some.now c.in_ok-now.ensures.ended c.in-Some.is in (
      ended.1,
      left_through c.args.pending c.loop-turn.left _ _ _ c.loop-turn.invariant.left
          (c.is_through-may_end.ensures ended.0) ended.2,
    )

pub returns-in-Some-clause-over : goal.returns-in-Some-clause-over
returns-in-Some-clause-over g c =
    let link = g.L.Link in
    goes_join link.sends link.receives link.fault_count _ _ _ _ _ _ c.loop-turn.invariant.over c.in_ok-now.ensures.over
