use Rattle.std.proofs.Common.{◌∙◌, ap, arith, map}
use Rattle.std.proofs.lemmas.List.{take_all}
use Rattle.coap_scripts.specs.Settings.{setting_of}
use Rattle.coap_serving.specs.ScriptSettings.{limit_by, limit_with}
use Rattle.coap_serving.proofs.ScriptCalls.{limit_more}
use Rattle.coap_serving.proofs.serve_script.limit_by.Goals as goal

pub loop-setting-preserved : goal.loop-setting-preserved
loop-setting-preserved c =
    c.limit_with-last.ensures ∙ ap (λ n. limit_with n (setting_of c.setting-item.result)) c.loop-setting.invariant
    ∙ limit_more setting_of c.args.limit c.args.settings.now c.loop-setting.setting-index c.setting-item.result
    c.setting-item.is c.loop-setting-test.true

pub returns : goal.returns
returns c =
    c.loop-setting.invariant
    ∙ ap (λ ss. limit_by c.args.limit (map setting_of ss))
    (take_all c.loop-setting.setting-index c.args.settings.now (omega arith))
