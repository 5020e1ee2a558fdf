use Rattle.std.proofs.Common.{List, take}
use Rattle.coap_resource.specs.Entries.{content_of}
use Rattle.coap_resource.specs.Limits.{Limits}
use Rattle.coap_layer.specs.declared.setup.Setup.{Setup}
use Rattle.coap_server.specs.Led.{Led}
use Rattle.coap_server.specs.Object.Shown.{state_of}
use Rattle.coap_server.specs.Trace.{Call}
use Rattle.coap_types.specs.declared.szx.TheConstants.{MAX_SZX as max_szx}
use Rattle.coap_serving.specs.SettingUp.{Holds}
use Rattle.coap_serving.proofs.setting_up.hold_all.Given as goal

-- so far it holds the first of them
abbrev pub invariant-loop-held : goal.invariant-loop-held
invariant-loop-held g l = (limits : Limits) (setup : Setup) (t : List Call)
    → Led limits max_szx setup t (state_of content_of l.fn.server)
    → (after : List Call) × Holds (take l.held-index l.holds) t after
    × Led limits max_szx setup after (state_of content_of l.server)
