use Rattle.std.proofs.Common.{◌≡◌, List, map, take}
use Rattle.coap_resource.specs.Entries.{content_of}
use Rattle.coap_resource.specs.Limits.{Limits}
use Rattle.coap_layer.specs.declared.setup.Setup.{Setup}
use Rattle.coap_server.specs.Led.{Led}
use Rattle.coap_server.specs.Object.Shown.{state_of}
use Rattle.coap_server.specs.Trace.{Call}
use Rattle.coap_types.specs.declared.szx.TheConstants.{MAX_SZX as max_szx}
use Rattle.coap_scripts.specs.Settings.{setting_of}
use Rattle.coap_serving.specs.ScriptSettings.{AreMade}
use Rattle.coap_serving.proofs.serve_script.make_all.Given as goal

-- so far the first of them are made
abbrev pub invariant-loop-setting : goal.invariant-loop-setting
invariant-loop-setting g l = record {
  counted : l.made ≡ l.setting-index;
  led : (limits : Limits) (setup : Setup) (t : List Call)
      → Led limits max_szx setup t (state_of content_of l.fn.server)
      → (after : List Call) × AreMade (map setting_of (take l.setting-index l.settings)) t after
      × Led limits max_szx setup after (state_of content_of l.server);
}
