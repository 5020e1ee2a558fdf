use Rattle.std.proofs.Common.{◌≡◌, length, arith, [], refl}
use Rattle.coap_arguments.specs.Serving.{IsHold}
use Rattle.coap_arguments.proofs.GivenTexts.{ended, given_texts, none_of, none_said, one_more, refused_at, some_of}
use Rattle.coap_arguments.proofs.serving.holds_of.Goals as goal

pub returns-in_default : goal.returns-in_default
returns-in_default c =
    none_said IsHold _ _ (given_texts c.args.given.now _ _ _ _ c.get_strs.ensures c.name.ensures c.in_default.is)
    c.new-holds.ensures.items

pub returns-in_default-2 : goal.returns-in_default-2
returns-in_default-2 c =
    let texts = given_texts c.args.given.now _ _ _ _ c.get_strs.ensures c.name.ensures c.in-Some.is in
    refused_at IsHold (λ s. s.now) c.in-Some.texts.now c.loop-text.text-index _ (omega arith) _ texts
    (none_of _ _ _ c.in_ok-hold.ensures c.in_default-2.is)

pub loop-text-init : goal.loop-text-init
loop-text-init c = none_said IsHold [] _ refl c.new-holds.ensures.items

pub loop-text-preserved : goal.loop-text-preserved
loop-text-preserved c =
    one_more IsHold (λ s. s.now) c.in-Some.texts.now c.loop-text.text-index _ (omega arith) _ _ _ c.loop-text.invariant
    (some_of _ _ _ _ c.in_ok-hold.ensures c.in-Some-2.is) c.in_ok-add.ensures

pub returns : goal.returns
returns c =
    let texts = given_texts c.args.given.now _ _ _ _ c.get_strs.ensures c.name.ensures c.in-Some.is in
    let at_end : c.loop-text.text-index ≡ length c.in-Some.texts.now = omega arith in
    ended IsHold (λ s. s.now) c.in-Some.texts.now c.loop-text.text-index _ _ at_end texts c.loop-text.invariant
