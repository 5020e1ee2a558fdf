use Rattle.std.proofs.Common.{[], ℕ, map, subst}
use Rattle.coap_resource.specs.Entries.{content_of}
use Rattle.coap_server.specs.Led.{Led}
use Rattle.coap_server.specs.Object.Shown.{state_of}
use Rattle.coap_types.specs.declared.szx.TheConstants.{MAX_SZX as max_szx}
use Rattle.coap_scripts.specs.Settings.{setting_of}
use Rattle.coap_answers.specs.Ends.{server_limits_after}
use Rattle.coap_serving.specs.ScriptSettings.{limit_by}
use Rattle.coap_serving.specs.SettingUp.{served_setup}
use Rattle.coap_common.proofs.Facts.{none_is, some_is}
use Rattle.coap_serving.proofs.setting_up.server_after.Goals as goal

pub returns-in-Ok-None-clause-made : goal.returns-in-Ok-None-clause-made
returns-in-Ok-None-clause-made g c =
    let options = c.args.options.now in
    let base = c.args.origin.base in
    let setup = served_setup c.args.origin.word options in
    none_is _ _
    (c.in-Ok-None.ensures.made
    (server_limits_after (limit_by options.limit (map setting_of c.args.settings.now)) base) setup []
    (subst (λ (n : ℕ). Led (server_limits_after n base) max_szx setup []
    (state_of content_of c.fresh_server_after-server.result))
    c.limit_by-limit.ensures c.fresh_server_after-server.ensures))
    c.in-Ok-None.field-0-is

pub returns-in-Ok-Some-clause-refused : goal.returns-in-Ok-Some-clause-refused
returns-in-Ok-Some-clause-refused g c =
    let options = c.args.options.now in
    let base = c.args.origin.base in
    let setup = served_setup c.args.origin.word options in (
      state_of content_of c.set_up_by.new.server,
      some_is _ _ c.in-Ok-Some.why
          (c.in-Ok-Some.ensures.refused
          (server_limits_after (limit_by options.limit (map setting_of c.args.settings.now)) base) setup []
          (subst (λ (n : ℕ). Led (server_limits_after n base) max_szx setup []
          (state_of content_of c.fresh_server_after-server.result))
          c.limit_by-limit.ensures c.fresh_server_after-server.ensures))
          c.in-Ok-Some.field-0-is,
    )
