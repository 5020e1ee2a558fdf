use Rattle.std.proofs.Common.{◌≤◌, ◌-◌, ◌∷◌, Err, length, drop, is_ok, sym, ap, subst, ◌∙◌, arith}
use Rattle.std.proofs.lemmas.List.{length-map}
use Rattle.coap_server.proofs.Facts.EachCall.{led_further}
use Rattle.coap_server.specs.Object.Shown.{delay_as, state_of}
use Rattle.coap_server.specs.Deferring.{may_delay}
use Rattle.coap_server.specs.Led.{Led}
use Rattle.coap_server.specs.Trace.{Own, Delays}
use Rattle.coap_server.specs.declared.limits.TheConstants.{MAX_DELAYS as max_delays}
use Rattle.coap_record.specs.Events.{Config}
use Rattle.coap_record.specs.Begins.{gives}
use Rattle.coap_run.proofs.Recording.Beginning.{none_full, next_given, none_yet, few_left}
use Rattle.coap_run.proofs.running.begin.give_delays.Goals as goal

pub delays-init : goal.delays-init
delays-init g c =
    let k = c.args.config.now in
    let none = none_yet c.config.inside.delays.items k.delays c.len-left.result
    (ap (λ (k : Config). k.delays) c.config.view_is) (c.len-left.ensures ∙ c.config.inside.delays.ok.0) in
    record {
      within = none.0;
      led = subst (λ t. Led k.limits k.server_szx k.server_setup t (state_of g.S.Store.content c.args.server.now))
          none.1
          c.requires;
    }

pub delays-preserved : goal.delays-preserved
delays-preserved g c =
    let n = c.delays.left - 1 in
    let k = c.args.config.now in
    let are = ap (λ (k : Config). k.delays) c.config.view_is in
    let long = ap length (sym are) ∙ length-map c.config.inside.delays.items delay_as in
    let ok = ap is_ok c.in-Ok.is in
    record {
      within = omega (arith, c.delays.invariant.within);
      led =
          subst (λ t. Led k.limits k.server_szx k.server_setup t (state_of g.S.Store.content c.set_delay.new.self))
          (next_given c.config.inside.delays.items k.delays n c.delays.left c.index-delay.result.now are
          (omega (arith, c.delays-test.true)) (omega (arith, long, c.delays.invariant.within, c.delays-test.true))
          c.index-delay.ensures)
          (subst (λ b. Led k.limits k.server_szx k.server_setup
          (Delays c.index-delay.result.now.path c.index-delay.result.now.ms b ∷ gives (drop c.delays.left k.delays))
          (state_of g.S.Store.content c.set_delay.new.self)) ok
          (led_further k.limits k.server_szx k.server_setup
          (gives (drop c.delays.left k.delays)) _ _ _ c.delays.invariant.led
          (c.set_delay.ensures.step (λ e. let clash = sym c.in-Ok.is ∙ e in cc))));
    }

pub unreachable-requires : goal.unreachable-requires
unreachable-requires g c =
    let k = c.args.config.now in
    let is = c.in-Err-Full.is ∙ ap Err c.in-Err-Full.field-0-is in
    let step = c.set_delay.ensures.step (λ e. let clash = sym is ∙ e in cc) in
    let few = few_left k.delays c.delays.left c.delays-test.true c.delays.invariant.within
    (subst (λ (k : Config). length k.delays ≤ max_delays) c.config.view_is c.config.invariant.few) in
    none_full k.limits k.server_szx (drop c.delays.left k.delays) c.index-delay.result.now.path few
    (sym (ap is_ok is) ∙ step.right ∙ ap (λ (o : Own). may_delay c.index-delay.result.now.path o.delays)
    c.delays.invariant.led.own_is)
