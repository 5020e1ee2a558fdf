use Rattle.std.proofs.Common.{subst, arith, fold, take, ℕ, List}
use Rattle.std.proofs.lemmas.List.{take_all}
use Rattle.coap_resource.specs.Entries.{content_of}
use Rattle.coap_server.proofs.Facts.EachCall.{led_further}
use Rattle.coap_server.specs.Led.{Led}
use Rattle.coap_server.specs.Object.Shown.{state_of}
use Rattle.coap_server.specs.Trace.{Call}
use Rattle.coap_types.specs.declared.szx.TheConstants.{MAX_SZX as max_szx}
use Rattle.coap_serving.specs.SettingUp.{with_plain}
use Rattle.coap_scripts.proofs.Facts.FoldedItems.{fold_item}
use Rattle.coap_serving.proofs.setting_up.make_plain.Goals as goal

pub loop-path-init : goal.loop-path-init
loop-path-init g c = λ limits setup t led. led

pub loop-path-preserved : goal.loop-path-preserved
loop-path-preserved g c = λ limits setup t led.
    let i = c.loop-path.path-index in
    subst (λ (after : List Call). Led limits max_szx setup after (state_of content_of c.set_plain.new.self))
    (fold_item with_plain t c.args.paths.now i c.path-item.result c.path-item.is c.loop-path-test.true)
    (led_further limits max_szx setup (fold with_plain t (take i c.args.paths.now)) _ _ _
    (c.loop-path.invariant limits setup t led) (c.in-Ok.ensures.step (λ e. cc e)))

pub returns : goal.returns
returns g c = λ limits setup t led.
    subst (λ (ps : List (List (List ℕ))). Led limits max_szx setup (fold with_plain t ps)
    (state_of content_of c.loop-path.server))
    (take_all c.loop-path.path-index c.args.paths.now (omega arith)) (c.loop-path.invariant limits setup t led)
