use Rattle.std.proofs.Common.{arith, ap, sym, ◌∙◌}
use Rattle.coap_types.specs.CoapOption.{option_of}
use Rattle.coap_codec.proofs.OneOption.IsRead.{option_shorter}
use Rattle.coap_codec.proofs.OneOption.LongestRun.{walk_step, walk_stop}
use Rattle.coap_codec.proofs.option_walk.behind_options.Goals as goal

pub loop-option-smaller : goal.loop-option-smaller
loop-option-smaller c = option_shorter c.loop-option.number c.loop-option.rest.now
    (option_of c.in-Ok.option) c.in-Ok.after.now c.in-Ok.ensures

pub loop-option-preserved : goal.loop-option-preserved
loop-option-preserved c =
    let step = walk_step c.loop-option.number c.loop-option.rest.now
    (option_of c.in-Ok.option) c.in-Ok.after.now c.in-Ok.ensures in
    let shorter = option_shorter c.loop-option.number c.loop-option.rest.now
    (option_of c.in-Ok.option) c.in-Ok.after.now c.in-Ok.ensures in
    record {
      short = omega arith;
      rest = sym (ap (λ w. w.rest) step) ∙ c.loop-option.invariant.rest;
      reason = sym (ap (λ w. w.reason) step) ∙ c.loop-option.invariant.reason;
    }

pub returns-in-Err-clause-rest : goal.returns-in-Err-clause-rest
returns-in-Err-clause-rest c = sym (ap (λ w. w.rest)
    (walk_stop c.loop-option.number c.loop-option.rest.now c.in-Err.reason c.in-Err.ensures))
    ∙ c.loop-option.invariant.rest

pub returns-in-Err-clause-reason : goal.returns-in-Err-clause-reason
returns-in-Err-clause-reason c = sym (ap (λ w. w.reason)
    (walk_stop c.loop-option.number c.loop-option.rest.now c.in-Err.reason c.in-Err.ensures))
    ∙ c.loop-option.invariant.reason
