use Rattle.std.proofs.Common.{◌+◌, rules, arith, subst, ap}
use Rattle.coap_run.specs.Run.Happening.{event_of}
use Rattle.coap_arguments.proofs.Facts.PathTexts.{not_empty}
use Rattle.coap_scripts.specs.Script.{IsFirstBad, SaysEvent, lines_of}
use Rattle.coap_scripts.proofs.NoEvent.{named_line}
use Rattle.coap_scripts.proofs.ScriptLines.{first_bad, none_left, one_counted, reads_all, reads_on, shorter}
use Rattle.coap_scripts.proofs.script.events_of.Goals as goal

pub lines-preserved : goal.lines-preserved
lines-preserved g c =
    let left = c.lines.left.now in
    let some = not_empty left c.is_empty.result c.is_empty.ensures (search (rules, c.lines-test.true)) in
    record {
      reads = reads_on SaysEvent event_of c.args.script.now left c.first_line.result.0.now c.first_line.result.1.now
          c.lines.events.items c.push.new.self.items c.in-Ok.event some c.first_line.ensures c.in-Ok.ensures.said
          c.in_ok-push-in-Ok.ensures.items c.lines.invariant.reads;
      counted = one_counted c.lines.events.items c.push.new.self.items c.in-Ok.event c.lines.number
          c.lines.invariant.counted c.in_ok-push-in-Ok.ensures.items;
      few = omega (arith, c.lines.invariant.few, shorter left _ _ some c.first_line.ensures);
    }

pub returns-clause-said : goal.returns-clause-said
returns-clause-said g c =
    reads_all SaysEvent event_of c.args.script.now c.lines.left.now c.lines.events.items
    (none_left c.lines.left.now c.is_empty.result c.is_empty.ensures (search (rules, c.lines-test.false)))
    c.lines.invariant.reads

pub lines-smaller : goal.lines-smaller
lines-smaller g c =
    let left = c.lines.left.now in
    let some = not_empty left c.is_empty.result c.is_empty.ensures (search (rules, c.lines-test.true)) in
    omega (arith, shorter left _ _ some c.first_line.ensures)

pub returns-in-Err-clause-no_event : goal.returns-in-Err-clause-no_event
returns-in-Err-clause-no_event g c = λ number is.
    let left = c.lines.left.now in
    let some = not_empty left c.is_empty.result c.is_empty.ensures (search (rules, c.lines-test.true)) in
    let at = named_line c.at.result (c.lines.number + 1) number c.in-Err.refusal c.at.ensures is in
    subst (IsFirstBad SaysEvent (lines_of c.args.script.now)) at.0
    (first_bad SaysEvent event_of c.args.script.now left c.first_line.result.0.now c.first_line.result.1.now
    c.lines.events.items (c.lines.number + 1) some c.first_line.ensures
    (ap (λ n. n + 1) c.lines.invariant.counted) (c.in-Err.ensures.none at.1) c.lines.invariant.reads)
