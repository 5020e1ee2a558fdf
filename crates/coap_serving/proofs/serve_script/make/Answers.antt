use Rattle.std.proofs.Common.{◌∷◌, Global, List, ℕ, subst, sym}
use Rattle.coap_resource.specs.Entries.{content_of}
use Rattle.coap_server.specs.Led.{Led}
use Rattle.coap_server.specs.Object.Shown.{state_of}
use Rattle.coap_server.specs.Trace.{Delays, Plains}
use Rattle.coap_types.specs.declared.szx.TheConstants.{MAX_SZX as max_szx}
use Rattle.coap_scripts.specs.Settings.{setting_of}
use Rattle.coap_scripts.specs.declared.script.settings.Setting.{Setting}
use Rattle.coap_serving.specs.ScriptSettings.{HoldsIf, IsMadeIf}
use Rattle.coap_serving.proofs.ScriptCalls.{delay_if, hold_if, made_by, made_one, plain_if}
use Rattle.coap_serving.proofs.serve_script.make.Goals as goal

pub returns-in-Hold : goal.returns-in-Hold
returns-in-Hold g c = λ limits setup t led.
    made_by c.hold.result (λ b x. HoldsIf b c.in-Hold.path c.in-Hold.format c.as_slice.result.now t x)
    (λ b x. IsMadeIf b (setting_of c.args.setting.now) t x)
    (λ x. Led limits max_szx setup x (state_of content_of c.hold.new.server))
    (λ b x h. subst (λ (s : Setting Global). IsMadeIf b (setting_of s) t x) (sym c.in-Hold.is)
    (hold_if b c.in-Hold.path c.in-Hold.format _ t x
    (subst (λ (bytes : List ℕ). HoldsIf b c.in-Hold.path c.in-Hold.format bytes t x) c.as_slice.ensures h)))
    (c.hold.ensures limits setup t led)

pub returns-in-Delay : goal.returns-in-Delay
returns-in-Delay g c = λ limits setup t led.
    made_one c.delay.result (λ b. Delays c.in-Delay.path c.in-Delay.ms b ∷ t)
    (λ b x. IsMadeIf b (setting_of c.args.setting.now) t x)
    (λ x. Led limits max_szx setup x (state_of content_of c.delay.new.server))
    (λ b. subst (λ (s : Setting Global). IsMadeIf b (setting_of s) t (Delays c.in-Delay.path c.in-Delay.ms b ∷ t))
    (sym c.in-Delay.is) (delay_if b c.in-Delay.path c.in-Delay.ms t))
    (c.delay.ensures limits setup t led)

pub returns-in-Plain : goal.returns-in-Plain
returns-in-Plain g c = λ limits setup t led.
    made_one c.plain.result (λ b. Plains c.in-Plain.path b ∷ t)
    (λ b x. IsMadeIf b (setting_of c.args.setting.now) t x)
    (λ x. Led limits max_szx setup x (state_of content_of c.plain.new.server))
    (λ b. subst (λ (s : Setting Global). IsMadeIf b (setting_of s) t (Plains c.in-Plain.path b ∷ t))
    (sym c.in-Plain.is) (plain_if b c.in-Plain.path t))
    (c.plain.ensures limits setup t led)
