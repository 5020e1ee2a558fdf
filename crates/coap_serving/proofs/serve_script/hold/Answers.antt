use Rattle.std.proofs.Common.{◌≡◌, ◌∙◌, refl}
use Rattle.coap_resource.specs.declared.refusal.StoreRefusal.TheVariants.{Memory}
use Rattle.coap_server.proofs.Facts.EachCall.{led_further}
use Rattle.coap_serving.proofs.serve_script.hold.Goals as goal

pub returns-in-Ok : goal.returns-in-Ok
returns-in-Ok g c = λ limits setup t led.
    (_, (c.in-Ok.field-0, _, refl), led_further limits _ setup t _ _ _ led (c.in-Ok.ensures.step (λ e. cc e)))

pub returns-in_ok-_why-in-Err : goal.returns-in_ok-_why-in-Err
returns-in_ok-_why-in-Err g c = λ limits setup t led. (
  _,
  (c.in-Err.refusal, _, refl),
  led_further limits _ setup t _ _ _ led
      (c.in-Err.ensures.step (λ e.
      let is : c.in-Err.refusal ≡ Memory = cc e in
      c.in_ok-_why-in-Err.ensures.other (c.in_ok-_why-in-Err.ensures.same ∙ is))),
)
