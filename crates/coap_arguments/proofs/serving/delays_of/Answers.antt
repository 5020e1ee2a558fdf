use Rattle.std.proofs.Common.{◌≡◌, ◌<◌, ◌≤◌, length, arith, inl, inr, rules, length-append}
use Rattle.coap_arguments.specs.Serving.{IsDelay}
use Rattle.coap_arguments.specs.declared.orders.TheConstants.{MAX_DELAYS as max_delays}
use Rattle.coap_arguments.proofs.GivenTexts.{ended, given_texts, none_of, none_said, one_more, refused_at, some_of}
use Rattle.coap_arguments.proofs.GivenTexts.{too_many}
use Rattle.coap_arguments.proofs.serving.delays_of.Goals as goal

pub returns-in_default : goal.returns-in_default
returns-in_default c =
    let none : length c.new-delays.result.items ≤ max_delays = grind (arith, c.new-delays.ensures) in (
      none_said IsDelay _ _ (given_texts c.args.given.now _ _ _ _ c.get_strs.ensures c.name.ensures c.in_default.is)
          c.new-delays.ensures.items,
      none,
    )

pub returns-in_default-2 : goal.returns-in_default-2
returns-in_default-2 c =
    let texts = given_texts c.args.given.now _ _ _ _ c.get_strs.ensures c.name.ensures c.in-Some.is in
    inr
    (refused_at IsDelay (λ s. s.now) c.in-Some.texts.now c.loop-text.text-index _ (omega arith) _ texts
    (none_of _ _ _ c.in_ok-delay.ensures c.in_default-2.is))

pub returns-then-len-ge-MAX_DELAYS : goal.returns-then-len-ge-MAX_DELAYS
returns-then-len-ge-MAX_DELAYS c =
    let texts = given_texts c.args.given.now _ _ _ _ c.get_strs.ensures c.name.ensures c.in-Some.is in
    let full : length c.loop-text.delays.items ≡ max_delays = search rules in
    inl
    (too_many IsDelay (λ s. s.now) c.in-Some.texts.now c.loop-text.text-index _ _ _ (omega arith) texts
    c.loop-text.invariant.0 full)

pub loop-text-preserved : goal.loop-text-preserved
loop-text-preserved c =
    let added = c.in_ok-add.ensures in
    let room : length c.loop-text.delays.items < max_delays = search rules in
    let few : length c.add.new.items.items ≤ max_delays = grind (arith, length-append, added) in (
      one_more IsDelay (λ s. s.now) c.in-Some.texts.now c.loop-text.text-index _ (omega arith) _ _ _
          c.loop-text.invariant.0 (some_of _ _ _ _ c.in_ok-delay.ensures c.in-Some-2.is) added,
      few,
    )

pub returns : goal.returns
returns c =
    let texts = given_texts c.args.given.now _ _ _ _ c.get_strs.ensures c.name.ensures c.in-Some.is in
    let at_end : c.loop-text.text-index ≡ length c.in-Some.texts.now = omega arith in (
      ended IsDelay (λ s. s.now) c.in-Some.texts.now c.loop-text.text-index _ _ at_end texts c.loop-text.invariant.0,
      c.loop-text.invariant.1,
    )
