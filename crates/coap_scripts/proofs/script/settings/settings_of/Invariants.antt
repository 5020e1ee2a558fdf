use Rattle.std.proofs.Common.{length}
use Rattle.coap_scripts.specs.Settings.{SaysSetting, setting_of}
use Rattle.coap_scripts.proofs.ScriptLines.{Reads}
use Rattle.coap_scripts.proofs.script.settings.settings_of.Given as goal

-- the settings so far are those of the lines before what is left
abbrev pub invariant-lines : goal.invariant-lines
invariant-lines g l = Reads SaysSetting setting_of l.fn.script l.left l.settings.items

abbrev pub decreases-lines : goal.decreases-lines
decreases-lines g l = length l.left
