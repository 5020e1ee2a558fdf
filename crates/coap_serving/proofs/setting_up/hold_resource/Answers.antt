use Rattle.std.proofs.Common.{◌∷◌, ap, Some, Ok, Err}
use Rattle.coap_server.specs.Trace.{Sets}
use Rattle.coap_common.specs.declared.usual.TheConstants.{TEXT_PLAIN as text_plain}
use Rattle.coap_serving.proofs.SettingUpCalls.{where_none, where_some}
use Rattle.coap_serving.proofs.setting_up.hold_resource.Goals as goal

pub returns-clause-holds : goal.returns-clause-holds
returns-clause-holds g c = λ limits setup t led.
    where_none c.hold.result _ _
    (λ h. (
      _,
      (
        c.in-Ok.path,
        c.in-Ok.ensures.ok.0,
        (h.0, h.1, ap (λ b. Sets 0 c.in-Ok.path (Some text_plain) b (Ok h.0) h.1 ∷ t) c.as_bytes.ensures.value),
      ),
      h.2,
    ))
    (c.hold.ensures.holds limits setup t led)

pub returns-clause-refused : goal.returns-clause-refused
returns-clause-refused g c = λ limits setup t led.
    where_some c.hold.result _ _
    (λ why h. (
      _,
      (
        c.in-Ok.path,
        c.in-Ok.ensures.ok.0,
        (h.0, ap (λ b. Sets 0 c.in-Ok.path (Some text_plain) b (Err why) h.0 ∷ t) c.as_bytes.ensures.value),
      ),
      h.1,
    ))
    (c.hold.ensures.refused limits setup t led)
