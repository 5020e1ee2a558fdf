use Rattle.std.proofs.Common.{◌+◌, rules, arith, subst, ap}
use Rattle.coap_arguments.proofs.Facts.PathTexts.{not_empty}
use Rattle.coap_scripts.specs.Script.{IsFirstBad, NamesPath, lines_of}
use Rattle.coap_scripts.proofs.NoEvent.{named_line, no_path, only_unreadable}
use Rattle.coap_scripts.proofs.ScriptLines.{first_bad, one_counted, reads_on, shorter}
use Rattle.coap_scripts.proofs.script.paths.paths_of.Goals as goal

pub lines-preserved : goal.lines-preserved
lines-preserved g c =
    let left = c.lines.left.now in
    let some = not_empty left c.is_empty.result c.is_empty.ensures (search (rules, c.lines-test.true)) in
    record {
      reads = reads_on (λ path line. NamesPath line path) (λ path. path) c.args.text.now left
          c.first_line.result.0.now c.first_line.result.1.now c.lines.paths.items c.push.new.self.items c.in-Ok.found
          some c.first_line.ensures c.in-Ok.ensures.said c.in_ok-push-in-Ok.ensures.items c.lines.invariant.reads;
      counted = one_counted c.lines.paths.items c.push.new.self.items c.in-Ok.found c.lines.number
          c.lines.invariant.counted c.in_ok-push-in-Ok.ensures.items;
      few = omega (arith, c.lines.invariant.few, shorter left _ _ some c.first_line.ensures);
    }

pub lines-smaller : goal.lines-smaller
lines-smaller g c =
    let left = c.lines.left.now in
    let some = not_empty left c.is_empty.result c.is_empty.ensures (search (rules, c.lines-test.true)) in
    omega (arith, shorter left _ _ some c.first_line.ensures)

pub returns-in-Err-clause-no_path : goal.returns-in-Err-clause-no_path
returns-in-Err-clause-no_path g c = λ number is.
    let left = c.lines.left.now in
    let some = not_empty left c.is_empty.result c.is_empty.ensures (search (rules, c.lines-test.true)) in
    let line = c.first_line.result.0.now in
    let at = named_line c.at.result (c.lines.number + 1) number c.in-Err.refusal c.at.ensures is in
    subst (IsFirstBad (λ path line. NamesPath line path) (lines_of c.args.text.now)) at.0
    (first_bad (λ path line. NamesPath line path) (λ path. path) c.args.text.now left line
    c.first_line.result.1.now c.lines.paths.items (c.lines.number + 1) some c.first_line.ensures
    (ap (λ n. n + 1) c.lines.invariant.counted)
    (no_path line (only_unreadable c.in-Err.refusal line at.1 c.in-Err.ensures.refused)) c.lines.invariant.reads)
