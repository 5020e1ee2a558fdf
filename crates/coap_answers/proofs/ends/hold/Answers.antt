use Rattle.std.proofs.Common.{◌≡◌, ◌∙◌, Err, Some, subst, sym}
use Rattle.coap_resource.specs.Entries.{content_of}
use Rattle.coap_resource.specs.declared.refusal.StoreRefusal.{StoreRefusal}
use Rattle.coap_resource.specs.declared.refusal.StoreRefusal.TheVariants.{Memory}
use Rattle.coap_common.specs.declared.usual.TheConstants.{TEXT_PLAIN as text_plain}
use Rattle.coap_server.proofs.Facts.EachCall.{led_further}
use Rattle.coap_server.specs.Led.{Step}
use Rattle.coap_server.specs.Object.Shown.{state_of}
use Rattle.coap_server.specs.Trace.{Sets}
use Rattle.coap_answers.proofs.ends.hold.Goals as goal

pub returns-in-Ok-clause-holds : goal.returns-in-Ok-clause-holds
returns-in-Ok-clause-holds g c = λ limits setup t led.
    (c.in-Ok.field-0, _, led_further limits _ setup t _ _ _ led (c.in-Ok.ensures.step (λ e. cc e)))

pub returns-in_ok-why-in-Err-clause-refused : goal.returns-in_ok-why-in-Err-clause-refused
returns-in_ok-why-in-Err-clause-refused g c = λ limits setup t led.
    let same = c.in_ok-why-in-Err.ensures.same in
    let old = state_of content_of c.args.server.now in
    let new = state_of content_of c.set.new.self in (
      new.own.store,
      led_further limits _ setup t _ _ _ led
          (subst (λ (w : StoreRefusal). Step old
          (Sets 0 c.args.path.now (Some text_plain) c.args.body.now (Err w) new.own.store) new) (sym same)
          (c.in-Err.ensures.step (λ e.
          let is : c.in-Err.refusal ≡ Memory = cc e in c.in_ok-why-in-Err.ensures.other (same ∙ is)))),
    )
