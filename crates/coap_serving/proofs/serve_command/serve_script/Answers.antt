use Rattle.std.proofs.Common.{Global, IfOk, List, map, subst}
use Rattle.coap_scripts.specs.Settings.{setting_of}
use Rattle.coap_scripts.specs.declared.script.settings.Setting.{Setting}
use Rattle.coap_wires.specs.Words.{IsDrawnOrigin}
use Rattle.coap_serving.specs.ScriptSettings.{AreOfScriptIn, IsBadInScript}
use Rattle.coap_serving.specs.Served.{IsServedFrom}
use Rattle.coap_serving.proofs.ServedCalls.{bad_script, made_is, refused_is, served_as}
use Rattle.coap_serving.proofs.serve_command.serve_script.Goals as goal

pub returns-in-Ok : goal.returns-in-Ok
returns-in-Ok g c =
    let options = c.args.options.now in
    let begins = IsDrawnOrigin (g.R.Draws.draws c.args.rt.now) options.word in
    let has = g.R.Texts.has c.args.rt.now in
    served_as begins has _ _ c.args.count options c.args.script (map setting_of c.in-Ok.settings.items)
    c.serve_settings.result
    (made_is (λ settings. AreOfScriptIn has c.args.script (map setting_of settings.items)) c.in_ok-settings.field-0
    c.in-Ok.settings c.in-Ok.is c.in_ok-settings.ensures.said)
    (subst (λ (ss : List (Setting Global)). IfOk c.serve_settings.result
    (IsServedFrom begins (g.O.Write.contents c.args.out.now) (g.O.Write.contents c.serve_settings.new.out) c.args.count
    options (map setting_of ss))) c.as_slice.ensures.value c.serve_settings.ensures)

pub returns-in-Err : goal.returns-in-Err
returns-in-Err g c =
    let options = c.args.options.now in
    let has = g.R.Texts.has c.args.rt.now in
    bad_script (IsDrawnOrigin (g.R.Draws.draws c.args.rt.now) options.word) has _ _ c.args.count options c.args.script
    c.in-Err.bad.0 c.tell_bad_line.result
    (refused_is (λ bad. IsBadInScript has c.args.script bad.0) c.in_ok-settings.field-0 c.in-Err.bad c.in-Err.is
    c.in_ok-settings.ensures.bad) c.tell_bad_line.ensures.status c.tell_bad_line.ensures.printed
