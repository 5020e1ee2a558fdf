use Rattle.std.proofs.Common.{List, fold, take}
use Rattle.coap_resource.specs.Entries.{content_of}
use Rattle.coap_resource.specs.Limits.{Limits}
use Rattle.coap_layer.specs.declared.setup.Setup.{Setup}
use Rattle.coap_server.specs.Led.{Led}
use Rattle.coap_server.specs.Object.Shown.{state_of}
use Rattle.coap_server.specs.Trace.{Call}
use Rattle.coap_types.specs.declared.szx.TheConstants.{MAX_SZX as max_szx}
use Rattle.coap_serving.specs.SettingUp.{with_plain}
use Rattle.coap_serving.proofs.setting_up.make_plain.Given as goal

-- so far the first of them are plain
abbrev pub invariant-loop-path : goal.invariant-loop-path
invariant-loop-path g l = (limits : Limits) (setup : Setup) (t : List Call)
    → Led limits max_szx setup t (state_of content_of l.fn.server)
    → Led limits max_szx setup (fold with_plain t (take l.path-index l.paths)) (state_of content_of l.server)
