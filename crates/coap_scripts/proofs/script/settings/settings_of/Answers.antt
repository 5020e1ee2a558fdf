use Rattle.std.proofs.Common.{◌+◌, rules, arith}
use Rattle.coap_arguments.proofs.Facts.PathTexts.{not_empty}
use Rattle.coap_scripts.specs.Settings.{SaysSetting, setting_of}
use Rattle.coap_scripts.proofs.ScriptLines.{none_left, reads_all, reads_on}
use Rattle.coap_scripts.proofs.SettingLines.{bad_at}
use Rattle.coap_scripts.proofs.script.settings.settings_of.Goals as goal

pub lines-preserved : goal.lines-preserved
lines-preserved g c =
    reads_on SaysSetting setting_of c.args.script.now c.lines.left.now c.first_line.result.0.now
    c.first_line.result.1.now c.lines.settings.items c.push.new.self.items c.in-Ok.setting
    (not_empty c.lines.left.now c.is_empty.result c.is_empty.ensures (search (rules, c.lines-test.true)))
    c.first_line.ensures c.in-Ok.ensures.said c.in_ok-push-in-Ok.ensures.items c.lines.invariant

pub returns-in-Err-clause-refused : goal.returns-in-Err-clause-refused
returns-in-Err-clause-refused g c =
    bad_at setting_of c.args.script.now c.lines.left.now c.first_line.result.0.now c.first_line.result.1.now
    c.lines.settings.items (c.len.result + 1) c.in-Err.refusal c.at.result
    (not_empty c.lines.left.now c.is_empty.result c.is_empty.ensures (search (rules, c.lines-test.true)))
    c.first_line.ensures c.lines.invariant (omega (arith, c.len.ensures)) c.in-Err.ensures.refused c.at.ensures

pub returns-clause-said : goal.returns-clause-said
returns-clause-said g c =
    reads_all SaysSetting setting_of c.args.script.now c.lines.left.now c.lines.settings.items
    (none_left c.lines.left.now c.is_empty.result c.is_empty.ensures (search (rules, c.lines-test.false)))
    c.lines.invariant
