use Rattle.std.proofs.Common.{◌≡◌, map, take}
use Rattle.coap_scripts.specs.Settings.{setting_of}
use Rattle.coap_serving.specs.ScriptSettings.{limit_by}
use Rattle.coap_serving.proofs.serve_script.limit_by.Given as goal

-- so far the limit is the last of the first settings
abbrev pub invariant-loop-setting : goal.invariant-loop-setting
invariant-loop-setting l = l.last ≡ limit_by l.fn.limit (map setting_of (take l.setting-index l.settings))
