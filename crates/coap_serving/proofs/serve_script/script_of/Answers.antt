use Rattle.std.proofs.Common.{map}
use Rattle.coap_scripts.specs.Script.{EachOf, IsFirstBad, lines_of}
use Rattle.coap_scripts.specs.Settings.{SaysSetting, setting_of}
use Rattle.coap_serving.specs.ScriptSettings.{AreOfScriptIn, IsBadInScript}
use Rattle.coap_serving.proofs.ScriptCalls.{bad_in, bad_of_script, of_script, said_in}
use Rattle.coap_serving.proofs.serve_script.script_of.Goals as goal

pub returns-clause-said : goal.returns-clause-said
returns-clause-said g c =
    let has = g.R.Texts.has c.args.rt.now in
    said_in (λ settings. EachOf SaysSetting (lines_of c.as_slice.result.now) (map setting_of settings.items))
    (λ settings. AreOfScriptIn has c.args.name (map setting_of settings.items)) c.script_in.result
    (λ settings each. of_script has c.args.name c.in-Some.name _ _ c.in-Some.is c.as_slice.ensures.value
    c.in_ok-text.ensures (map setting_of settings.items) each) c.script_in.ensures.said

pub returns-clause-bad : goal.returns-clause-bad
returns-clause-bad g c =
    let has = g.R.Texts.has c.args.rt.now in
    bad_in (λ bad. IsFirstBad SaysSetting (lines_of c.as_slice.result.now) bad.0)
    (λ bad. IsBadInScript has c.args.name bad.0) c.script_in.result
    (λ bad first. bad_of_script has c.args.name c.in-Some.name _ _ c.in-Some.is c.as_slice.ensures.value
    c.in_ok-text.ensures bad.0 first) c.script_in.ensures.bad
