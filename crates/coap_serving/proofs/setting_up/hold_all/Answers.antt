use Rattle.std.proofs.Common.{◌∷◌, ap, refl, subst, arith, List, Some, Ok, Err}
use Rattle.std.proofs.lemmas.List.{take_all}
use Rattle.coap_server.specs.Trace.{Sets}
use Rattle.coap_arguments.specs.declared.orders.Hold.{Hold}
use Rattle.coap_serving.specs.SettingUp.{Holds}
use Rattle.coap_common.specs.declared.usual.TheConstants.{TEXT_PLAIN as text_plain}
use Rattle.coap_common.proofs.Facts.{none_is, some_is}
use Rattle.coap_serving.proofs.SettingUpCalls.{one_hold, one_refused}
use Rattle.coap_serving.proofs.setting_up.hold_all.Goals as goal

pub loop-held-init : goal.loop-held-init
loop-held-init g c = λ limits setup t led. (t, refl, led)

pub loop-held-preserved : goal.loop-held-preserved
loop-held-preserved g c = λ limits setup t led.
    let so = c.loop-held.invariant limits setup t led in
    let next = none_is _ _ (c.in_ok-refusal.ensures.holds limits setup so.0 so.2) c.in_default.is in (
      _,
      one_hold c.args.holds.now c.loop-held.held-index c.held-item.result c.held-item.is c.loop-held-test.true t so.0 _
          so.1 (
            next.0,
            next.1,
            ap (λ b. Sets 0 c.held-item.result.path (Some text_plain) b (Ok next.0) next.1 ∷ so.0)
                c.as_slice.ensures.value,
          ),
      next.2,
    )

pub returns-clause-holds : goal.returns-clause-holds
returns-clause-holds g c = λ limits setup t led.
    let so = c.loop-held.invariant limits setup t led in (
      so.0,
      subst (λ (hs : List Hold). Holds hs t so.0) (take_all c.loop-held.held-index c.args.holds.now (omega arith))
          so.1,
      so.2,
    )

pub returns-in-Some-clause-refused : goal.returns-in-Some-clause-refused
returns-in-Some-clause-refused g c = λ limits setup t led.
    let so = c.loop-held.invariant limits setup t led in
    let last = some_is _ _ c.in-Some.refusal (c.in_ok-refusal.ensures.refused limits setup so.0 so.2) c.in-Some.is in (
      _,
      one_refused c.args.holds.now c.loop-held.held-index c.held-item.result c.held-item.is c.loop-held-test.true
          c.in-Some.refusal t so.0 _ so.1 (
            last.0,
            ap (λ b. Sets 0 c.held-item.result.path (Some text_plain) b (Err c.in-Some.refusal) last.0 ∷ so.0)
                c.as_slice.ensures.value,
          ),
      last.1,
    )
