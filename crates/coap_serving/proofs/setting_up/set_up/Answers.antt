use Rattle.std.proofs.Common.{ap₂, fold, inl, inr, subst, List}
use Rattle.coap_arguments.specs.declared.orders.Hold.{Hold}
use Rattle.coap_serving.specs.SettingUp.{Holds, RefusesOne, with_delay, with_plain}
use Rattle.coap_common.proofs.Facts.{none_is, some_is}
use Rattle.coap_serving.proofs.setting_up.set_up.Goals as goal

pub returns-clause-set : goal.returns-clause-set
returns-clause-set g c = λ limits setup t led.
    let own = none_is _ _ (c.in_ok-refusal.ensures.holds limits setup t led) c.in_default.is in
    let held = none_is _ _ (c.in_ok-refusal-2.ensures.holds limits setup own.0 own.2) c.in_default-2.is in
    let delayed = c.in_ok-delay_all.ensures limits setup held.0 held.2 in (
      _,
      (
        own.0,
        held.0,
        own.1,
        subst (λ (hs : List Hold). Holds hs own.0 held.0) c.as_slice.ensures.value held.1,
        ap₂ (λ ds ps. fold with_plain (fold with_delay held.0 ds) ps) c.as_slice-2.ensures.value
            c.as_slice-3.ensures.value,
      ),
      c.in_ok-make_plain.ensures limits setup _ delayed,
    )

pub returns-in-Some-clause-refused : goal.returns-in-Some-clause-refused
returns-in-Some-clause-refused g c = λ limits setup t led.
    let own = some_is _ _ c.in-Some.refusal (c.in_ok-refusal.ensures.refused limits setup t led) c.in-Some.is in
    (own.0, inl own.1, own.2)

pub returns-in-Some-2-clause-refused : goal.returns-in-Some-2-clause-refused
returns-in-Some-2-clause-refused g c = λ limits setup t led.
    let own = none_is _ _ (c.in_ok-refusal.ensures.holds limits setup t led) c.in_default.is in
    let one = some_is _ _ c.in-Some-2.refusal (c.in_ok-refusal-2.ensures.refused limits setup own.0 own.2)
    c.in-Some-2.is in (
      one.0,
      inr (
        own.0,
        own.1,
        subst (λ (hs : List Hold). RefusesOne hs c.in-Some-2.refusal own.0 one.0) c.as_slice.ensures.value one.1,
      ),
      one.2,
    )
