use Rattle.coap_waits.specs.Linked.{here, sent}
use Rattle.coap_waits.proofs.Facts.{begins_over, goes_join}
use Rattle.coap_asking.proofs.PolledCalls.{ends_by, next_on, none_read}
use Rattle.coap_asking.proofs.polling.polled.Goals as goal

pub loop-before-init : goal.loop-before-init
loop-before-init g c =
    let link = g.L.Link in
    record {
      next = none_read c.args.polling.now.options.now _ _ _ _ _;
      over = begins_over link.sends link.receives link.fault_count c.args.word _ _ _ c.fresh_tally-tally.ensures;
    }

pub loop-before-preserved : goal.loop-before-preserved
loop-before-preserved g c =
    let link = g.L.Link in
    let made = c.in_ok-made.ensures in
    let next = c.in_ok-next.ensures in
    record {
      next = next_on c.args.polling.now.options.now _ _ _ _ made.reads.0 _ _ _ _ _ _ _ c.loop-before.invariant.next
          made.reads.2 made.reads.3 _ _ next.paused.0 next.paused.1;
      over = goes_join link.sends link.receives link.fault_count _ _ _ _ _ _
          (goes_join link.sends link.receives link.fault_count _ _ _ _ _ _ c.loop-before.invariant.over made.over)
          next.over;
    }

pub returns-then-is_last-2-clause-polled : goal.returns-then-is_last-2-clause-polled
returns-then-is_last-2-clause-polled g c =
    let made = c.in_ok-made.ensures.reads in
    ends_by c.args.polling.now.options.now _ _ _ _ made.0 _ _ _ _ _ _ _ c.loop-before.invariant.next made.2 made.3 _ _
    (c.is_last-in-loop-before.ensures.0 c.if-is_last-2.true) made.1

pub returns-then-is_last-clause-over : goal.returns-then-is_last-clause-over
returns-then-is_last-clause-over g c = (_, here)

pub returns-then-is_last-2-clause-over : goal.returns-then-is_last-2-clause-over
returns-then-is_last-2-clause-over g c =
    let link = g.L.Link in (
      _,
      sent _ _ _ _ _
          (goes_join link.sends link.receives link.fault_count _ _ _ _ _ _ c.loop-before.invariant.over
          c.in_ok-made.ensures.over) c.send_all.ensures.chain,
    )
