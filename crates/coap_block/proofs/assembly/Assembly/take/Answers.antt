use Rattle.std.proofs.Common.{sym, subst, length}
use Rattle.coap_block.specs.Sizes.{Sizes}
use Rattle.coap_block.specs.AssemblyAnswer.{IsRefused}
use Rattle.coap_block.specs.AssemblyKept.{partials_of, key_of}
use Rattle.coap_block.proofs.Fields.StepOfState.{few_before, few_taken, led_by, takes_block, verdict_is}
use Rattle.coap_block.proofs.assembly.Assembly.take.Goals as goal

pub returns-in_err-took-clause-quiet : goal.returns-in_err-took-clause-quiet
returns-in_err-took-clause-quiet g c = λ h.
    let sizes : Sizes = record { szx = c.self.inside.szx; limit = c.self.inside.limit } in
    let judged = rw (c.counts-reached.ensures.reached, c.counts-reached.ensures.others, c.deref.ensures.value) at
    c.judge-verdict.ensures in
    let same = verdict_is sizes c.self.inside.clock.0 c.args.now.0 c.later-at.result.0
    (partials_of c.self.inside.partials.items) (key_of c.args.key.now)
    c.args.block (length c.args.payload.now) c.judge-verdict.result c.later-at.ensures judged in
    let fails = c.in_err-took.ensures.quiet (subst IsRefused (sym same) (rw (← c.self.view_is) at h)) in
    absurd cc

pub returns-clause-step : goal.returns-clause-step
returns-clause-step g c =
    let sizes : Sizes = record { szx = c.self.inside.szx; limit = c.self.inside.limit } in
    let judged = rw (c.counts-reached.ensures.reached, c.counts-reached.ensures.others, c.deref.ensures.value) at
    c.judge-verdict.ensures in
    rw (← c.self.view_is)
    (takes_block sizes c.self.inside.clock.0 c.args.now.0 c.later-at.result.0
    (partials_of c.self.inside.partials.items) (partials_of c.act.new.partials.items)
    (key_of c.args.key.now) c.args.block c.args.payload.now c.judge-verdict.result c.in_ok-took.took c.later-at.ensures
    judged c.in_ok-took.ensures.answer c.in_ok-took.ensures.left)

pub returns-clause-led : goal.returns-clause-led
returns-clause-led g c = λ t led. led_by t (returns-clause-step g c) led

pub invariant_of-self-2 : goal.invariant_of-self-2
invariant_of-self-2 g c =
    let sizes : Sizes = record { szx = c.self.inside.szx; limit = c.self.inside.limit } in
    let judged = rw (c.counts-reached.ensures.reached, c.counts-reached.ensures.others, c.deref.ensures.value) at
    c.judge-verdict.ensures in
    let step = takes_block sizes c.self.inside.clock.0 c.args.now.0 c.later-at.result.0
    (partials_of c.self.inside.partials.items) (partials_of c.act.new.partials.items)
    (key_of c.args.key.now) c.args.block c.args.payload.now c.judge-verdict.result c.in_ok-took.took c.later-at.ensures
    judged c.in_ok-took.ensures.answer c.in_ok-took.ensures.left in (
      c.in_ok-took.ensures.undoable,
      few_taken sizes c.self.inside.clock.0 c.args.now.0 c.later-at.result.0
          (partials_of c.self.inside.partials.items) (partials_of c.act.new.partials.items)
          (key_of c.args.key.now) c.args.block c.args.payload.now c.in_ok-took.took step c.self.invariant.1
          c.in_ok-took.ensures.few,
      few_before c.self.inside.clock.0 (partials_of c.self.inside.partials.items) _ c.in_ok-took.ensures.back
          c.self.invariant.1 c.in_ok-took.ensures.few_back,
    )
