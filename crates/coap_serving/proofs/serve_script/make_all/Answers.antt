use Rattle.std.proofs.Common.{◌+◌, ℕ, Bool, Global, List, ap, arith, map, refl, subst, sym}
use Rattle.std.proofs.lemmas.List.{take_all}
use Rattle.coap_scripts.specs.Settings.{setting_of}
use Rattle.coap_scripts.specs.declared.script.settings.Setting.{Setting}
use Rattle.coap_serving.specs.ScriptSettings.{AreMade, IsFirstNotMade, IsMadeIf}
use Rattle.coap_serving.proofs.ScriptCalls.{one_made, one_not_made}
use Rattle.coap_serving.proofs.serve_script.make_all.Goals as goal

pub loop-setting-init : goal.loop-setting-init
loop-setting-init g c = record { counted = refl; led = λ limits setup t led. (t, refl, led) }

pub loop-setting-preserved : goal.loop-setting-preserved
loop-setting-preserved g c = record {
  counted = ap (λ n. n + 1) c.loop-setting.invariant.counted;
  led = λ limits setup t led.
      let so = c.loop-setting.invariant.led limits setup t led in
      let next = c.in_ok-make.ensures limits setup so.0 so.2 in (
        next.0,
        one_made setting_of c.args.settings.now c.loop-setting.setting-index c.setting-item.result c.setting-item.is
            c.loop-setting-test.true t so.0 next.0 so.1
            (subst (λ (b : Bool). IsMadeIf b (setting_of c.setting-item.result) so.0 next.0) c.if-not-branch.false
            next.1),
        next.2,
      );
}

pub returns-then-not-branch-clause-refused : goal.returns-then-not-branch-clause-refused
returns-then-not-branch-clause-refused g c = λ limits setup t led.
    let so = c.loop-setting.invariant.led limits setup t led in
    let next = c.in_ok-make.ensures limits setup so.0 so.2 in
    let settings = map setting_of c.args.settings.now in (
      next.0,
      subst (λ (n : ℕ). IsFirstNotMade settings (n + 1) t next.0) (sym c.loop-setting.invariant.counted)
          (one_not_made setting_of c.args.settings.now c.loop-setting.setting-index c.setting-item.result
          c.setting-item.is c.loop-setting-test.true t so.0 next.0 so.1
          (subst (λ (b : Bool). IsMadeIf b (setting_of c.setting-item.result) so.0 next.0) c.if-not-branch.true
          next.1)),
      next.2,
    )

pub returns-clause-made : goal.returns-clause-made
returns-clause-made g c = λ limits setup t led.
    let so = c.loop-setting.invariant.led limits setup t led in (
      so.0,
      subst (λ (ss : List (Setting Global)). AreMade (map setting_of ss) t so.0)
          (take_all c.loop-setting.setting-index c.args.settings.now (omega arith)) so.1,
      so.2,
    )
