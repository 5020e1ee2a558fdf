use Rattle.coap_common.proofs.Facts.{none_is, some_is}
use Rattle.coap_serving.proofs.setting_up.set_up_by.Goals as goal

pub returns-in-None-clause-made : goal.returns-in-None-clause-made
returns-in-None-clause-made g c = λ limits setup t led.
    let own = none_is _ _ (c.in_ok-refusal.ensures.set limits setup t led) c.in_default.is in
    let made = none_is _ _ (c.in_ok-bad.ensures.made limits setup own.0 own.2) c.in-None.is in
    (own.0, made.0, own.1, made.1, made.2)

pub returns-in-Some-clause-refused : goal.returns-in-Some-clause-refused
returns-in-Some-clause-refused g c = λ limits setup t led.
    some_is _ _ c.in-Some.refusal (c.in_ok-refusal.ensures.refused limits setup t led) c.in-Some.is

pub returns-in-Some-2-clause-refused : goal.returns-in-Some-2-clause-refused
returns-in-Some-2-clause-refused g c = λ limits setup t led.
    let own = none_is _ _ (c.in_ok-refusal.ensures.set limits setup t led) c.in_default.is in
    let first = some_is _ _ _ (c.in_ok-bad.ensures.refused limits setup own.0 own.2) c.in-Some-2.is in
    (own.0, first.0, own.1, first.1, first.2)
