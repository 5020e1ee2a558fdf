use Rattle.std.proofs.Common.{subst, arith, fold, take, List}
use Rattle.std.proofs.lemmas.List.{take_all}
use Rattle.coap_resource.specs.Entries.{content_of}
use Rattle.coap_server.proofs.Facts.EachCall.{led_further}
use Rattle.coap_server.specs.Led.{Led}
use Rattle.coap_server.specs.Object.Shown.{state_of}
use Rattle.coap_server.specs.Trace.{Call}
use Rattle.coap_types.specs.declared.szx.TheConstants.{MAX_SZX as max_szx}
use Rattle.coap_arguments.specs.declared.orders.Delay.{Delay}
use Rattle.coap_serving.specs.SettingUp.{with_delay}
use Rattle.coap_scripts.proofs.Facts.FoldedItems.{fold_item}
use Rattle.coap_serving.proofs.setting_up.delay_all.Goals as goal

pub loop-delay-init : goal.loop-delay-init
loop-delay-init g c = λ limits setup t led. led

pub loop-delay-preserved : goal.loop-delay-preserved
loop-delay-preserved g c = λ limits setup t led.
    let i = c.loop-delay.delay-index in
    subst (λ (after : List Call). Led limits max_szx setup after (state_of content_of c.set_delay.new.self))
    (fold_item with_delay t c.args.delays.now i c.delay-item.result c.delay-item.is c.loop-delay-test.true)
    (led_further limits max_szx setup (fold with_delay t (take i c.args.delays.now)) _ _ _
    (c.loop-delay.invariant limits setup t led) (c.in-Ok.ensures.step (λ e. cc e)))

pub returns : goal.returns
returns g c = λ limits setup t led.
    subst (λ (ds : List Delay). Led limits max_szx setup (fold with_delay t ds)
    (state_of content_of c.loop-delay.server))
    (take_all c.loop-delay.delay-index c.args.delays.now (omega arith)) (c.loop-delay.invariant limits setup t led)
