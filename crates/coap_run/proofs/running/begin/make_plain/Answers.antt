use Rattle.std.proofs.Common.{◌≤◌, ◌-◌, ◌∷◌, Err, length, drop, get_or, is_ok, sym, ap, subst, ◌∙◌, arith}
use Rattle.coap_server.proofs.Facts.EachCall.{led_further}
use Rattle.coap_server.specs.Object.Shown.{state_of}
use Rattle.coap_server.specs.Plain.{may_be_plain}
use Rattle.coap_server.specs.Led.{Led}
use Rattle.coap_server.specs.Trace.{Own, Plains}
use Rattle.coap_server.specs.declared.limits.TheConstants.{MAX_PLAINS as max_plains}
use Rattle.coap_record.specs.Events.{Config}
use Rattle.coap_record.specs.Begins.{begins_with}
use Rattle.coap_run.proofs.Recording.PlainPaths.{none_full, next_plain, none_yet, few_left}
use Rattle.coap_run.proofs.running.begin.make_plain.Goals as goal

pub plains-init : goal.plains-init
plains-init g c =
    let k = c.args.config.now in
    let are = ap (λ (k : Config). k.plains) c.config.view_is in
    let none = none_yet k.plains k.delays c.len-left.result
    (c.len-left.ensures ∙ c.config.inside.plains.ok.0 ∙ ap length are) in
    record {
      within = none.0;
      led = subst (λ t. Led k.limits k.server_szx k.server_setup t (state_of g.S.Store.content c.args.server.now))
          none.1
          c.requires;
    }

pub plains-preserved : goal.plains-preserved
plains-preserved g c =
    let n = c.plains.left - 1 in
    let k = c.args.config.now in
    let are = ap (λ (k : Config). k.plains) c.config.view_is in
    let long = ap length (sym are) in
    let ok = ap is_ok c.in-Ok.is in
    record {
      within = omega (arith, c.plains.invariant.within);
      led =
          subst (λ t. Led k.limits k.server_szx k.server_setup t (state_of g.S.Store.content c.set_plain.new.self))
          (next_plain k.plains k.delays n c.plains.left c.index.result.now (omega (arith, c.plains-test.true))
          (omega (arith, long, c.plains.invariant.within, c.plains-test.true))
          (c.index.ensures ∙ ap (λ ps. get_or ps n c.index.result.now) are))
          (subst (λ b. Led k.limits k.server_szx k.server_setup
          (Plains c.index.result.now b ∷ begins_with (drop c.plains.left k.plains) k.delays)
          (state_of g.S.Store.content c.set_plain.new.self)) ok
          (led_further k.limits k.server_szx k.server_setup
          (begins_with (drop c.plains.left k.plains) k.delays) _ _ _ c.plains.invariant.led
          (c.set_plain.ensures.step (λ e. let clash = sym c.in-Ok.is ∙ e in cc))));
    }

pub unreachable-requires : goal.unreachable-requires
unreachable-requires g c =
    let k = c.args.config.now in
    let is = c.in-Err-Full.is ∙ ap Err c.in-Err-Full.field-0-is in
    let step = c.set_plain.ensures.step (λ e. let clash = sym is ∙ e in cc) in
    let few = few_left k.plains c.plains.left c.plains-test.true c.plains.invariant.within
    (subst (λ (k : Config). length k.plains ≤ max_plains) c.config.view_is c.config.invariant.few_plains) in
    none_full k.limits k.server_szx (drop c.plains.left k.plains) k.delays c.index.result.now few
    (sym (ap is_ok is) ∙ step.right ∙ ap (λ (o : Own). may_be_plain c.index.result.now o.plains)
    c.plains.invariant.led.own_is)
