use Rattle.std.proofs.Common.{◌≡◌, ◌≤◌, ◌<◌, ◌+◌, ◌-◌, ◌/◌, ℕ, arith, false, length, refl, ◌∙◌}
use Rattle.coap_layer.specs.Machine.Entries.{is_passed_at}
use Rattle.coap_layer.proofs.Calls.Passed.{live_from, passed_leap, passed_no_more}
use Rattle.coap_layer.proofs.dedup.entries.passed_by.Goals as goal

pub overflow_add-passed : goal.overflow_add-passed
overflow_add-passed g c =
    let within = c.far-test.ensures.within in let few = c.len-held.ensures.few in omega (arith, within, few)

pub overflow_add-step : goal.overflow_add-step
overflow_add-step g c =
    let within = c.far-test.ensures.within in let few = c.len-held.ensures.few in omega (arith, within, few)

pub far-preserved : goal.far-preserved
far-preserved g c =
    let within = c.far-test.ensures.within in
    let some = c.far.invariant.1 in (
      omega (arith, within),
      omega arith,
      passed_leap c.args.now.0 c.args.log.now.entries c.far.passed c.far.step (c.far.passed + c.far.step)
          c.requires.order (omega arith) some (c.far-test.ensures.passed refl)
          ∙ c.far.invariant.2,
    )

pub overflow_add-passed-then-leaps : goal.overflow_add-passed-then-leaps
overflow_add-passed-then-leaps g c =
    let within = c.if-leaps.ensures.within in let few = c.len-held.ensures.few in omega (arith, within, few)

pub near-preserved-then-leaps : goal.near-preserved-then-leaps
near-preserved-then-leaps g c =
    let es = c.args.log.now.entries in
    let passed = c.near.passed in
    let step : ℕ = c.near.step - c.near.step / 2 in
    let more = c.near-test.true in
    let within = c.if-leaps.ensures.within in
    let to : ℕ = passed + step in (
      omega (arith, within),
      omega (arith, more),
      passed_leap c.args.now.0 es passed step to c.requires.order (omega arith) (omega (arith, more))
          (c.if-leaps.ensures.passed refl)
          ∙ c.near.invariant.2,
      λ h. live_from c.args.now.0 es (passed + c.near.step - 1) (to + step - 1) c.requires.order
          (omega (arith, more)) (c.near.invariant.3 (omega (arith, more, h))),
    )

pub returns-clause-live : goal.returns-clause-live
returns-clause-live g c =
    let held = c.len-held.ensures.len in
    let within = c.near.invariant.0 in
    let some = c.near.invariant.1 in
    let last = c.near-test.false in
    passed_no_more c.args.now.0 c.args.log.now.entries c.near.passed c.near.step c.requires.order
    (omega (arith, within, held)) some (omega (arith, last))
    (λ h. c.near.invariant.3 (omega (arith, h, held)))
    ∙ c.near.invariant.2
