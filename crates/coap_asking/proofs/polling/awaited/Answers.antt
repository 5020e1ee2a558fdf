use Rattle.std.proofs.Common.{◌≡◌, Option, Some, None, IfNone, refl}
use Rattle.coap_client.specs.Trace.{NextReport}
use Rattle.coap_waits.specs.Asks.{TurnsAt, TurnsInTime}
use Rattle.coap_waits.specs.Linked.{here}
use Rattle.coap_waits.proofs.Facts.{turned_by, turned_here, turned_in_time, turned_on, turned_over}
use Rattle.coap_asking.proofs.PolledCalls.{come_given_up, come_report}
use Rattle.coap_asking.proofs.polling.awaited.Goals as goal

none_is : {X : Type 0} (P : Type 0) (o : Option X) → IfNone o P → o ≡ None → P
none_is P None h is = h
none_is P (Some x) h is = cc

pub loop-turn-init : goal.loop-turn-init
loop-turn-init g c = record { asked = turned_here (TurnsInTime c.args.give_up c.args.begin.0) _ _ refl; over = here }

pub loop-turn-preserved : goal.loop-turn-preserved
loop-turn-preserved g c =
    let like = TurnsInTime c.args.give_up c.args.begin.0 in
    let other = none_is _ _ c.next_report_of.ensures.other c.in_default.is in
    let link = g.L.Link in
    record {
      asked = turned_on like _ _ _
          (turned_on like _ _ _ c.loop-turn.invariant.asked
          (turned_in_time c.args.give_up c.args.begin.0 c.in_ok-now.now.0 _ _
          (none_is _ _ c.passed.ensures.none c.in_default-passed.is)
          c.in_ok-now.ensures.turned))
          (turned_by like _ _ (NextReport other.0) tt other.1);
      over = turned_over link.sends link.receives link.fault_count _ _ _ _ _ _ _ _ _ _ _ c.loop-turn.invariant.over
          c.in_ok-now.ensures.over c.next_report_of.ensures.own;
    }

pub returns-in-Some-clause-comes : goal.returns-in-Some-clause-comes
returns-in-Some-clause-comes g c =
    come_report c.args.give_up c.args.begin.0 c.args.id c.in-Some.report _ _ _ _ c.in_ok-now.now.0
    c.loop-turn.invariant.asked c.in_ok-now.ensures.turned c.in-Some.ensures.some

pub returns-in-Some-passed-clause-comes : goal.returns-in-Some-passed-clause-comes
returns-in-Some-passed-clause-comes g c =
    let like = TurnsAt c.in_ok-now.now.0 in
    let other = none_is _ _ c.next_report_of.ensures.other c.in_default.is in
    come_given_up c.args.give_up c.args.begin.0 c.args.id _ _ _ _ c.in_ok-now.now.0 c.in-Some-passed.ensures.some.0
    c.in-Some-passed.ensures.some.1 c.loop-turn.invariant.asked
    (turned_on like _ _ _ c.in_ok-now.ensures.turned
    (turned_by like _ _ (NextReport other.0) tt other.1))

pub returns-in-Some-clause-over : goal.returns-in-Some-clause-over
returns-in-Some-clause-over g c =
    let link = g.L.Link in
    turned_over link.sends link.receives link.fault_count _ _ _ _ _ _ _ _ _ _ _ c.loop-turn.invariant.over
    c.in_ok-now.ensures.over c.next_report_of.ensures.own

pub returns-in-Some-passed-clause-over : goal.returns-in-Some-passed-clause-over
returns-in-Some-passed-clause-over g c =
    let link = g.L.Link in
    turned_over link.sends link.receives link.fault_count _ _ _ _ _ _ _ _ _ _ _ c.loop-turn.invariant.over
    c.in_ok-now.ensures.over c.next_report_of.ensures.own
