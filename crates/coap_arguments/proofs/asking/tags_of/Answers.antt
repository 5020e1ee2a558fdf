use Rattle.std.proofs.Common.{◌≡◌, ◌≤◌, ◌++◌, ◌∷◌, [], refl, inl, inr, rules, length, arith, length-append}
use Rattle.coap_types.specs.declared.tag.TheConstants.{MAX_TAGS as max_tags}
use Rattle.coap_arguments.specs.Asking.{IsTagText}
use Rattle.coap_arguments.proofs.GivenTexts.{ended, given_texts, none_of, none_said, one_more, refused_at, some_of}
use Rattle.coap_arguments.proofs.GivenTexts.{too_many}
use Rattle.coap_arguments.proofs.asking.tags_of.Goals as goal

pub returns-in_default : goal.returns-in_default
returns-in_default c =
    let none : length c.new.result ≤ max_tags = grind (arith, c.new.ensures) in (
      none_said IsTagText _ _ (given_texts c.args.given.now _ _ _ _ c.get_strs.ensures c.name.ensures c.in_default.is)
          c.new.ensures,
      none,
    )

pub returns-in_default-2 : goal.returns-in_default-2
returns-in_default-2 c =
    let texts = given_texts c.args.given.now _ _ _ _ c.get_strs.ensures c.name.ensures c.in-Some.is in
    inr
    (refused_at IsTagText (λ s. s.now) c.in-Some.texts.now c.loop-text.text-index _ (omega arith) _ texts
    (none_of _ _ _ c.in_ok-tag.ensures c.in_default-2.is))

pub returns-then-is_err : goal.returns-then-is_err
returns-then-is_err c =
    let texts = given_texts c.args.given.now _ _ _ _ c.get_strs.ensures c.name.ensures c.in-Some.is in
    let full : length c.loop-text.tags ≡ max_tags = search rules in
    inl
    (too_many IsTagText (λ s. s.now) c.in-Some.texts.now c.loop-text.text-index _ _ _ (omega arith) texts
    c.loop-text.invariant.0 full)

pub loop-text-init : goal.loop-text-init
loop-text-init c =
    let none : length c.new-tags.result ≤ max_tags = grind (arith, c.new-tags.ensures) in
    (none_said IsTagText [] _ refl c.new-tags.ensures, none)

pub loop-text-preserved : goal.loop-text-preserved
loop-text-preserved c =
    let added : c.push.new.self ≡ c.loop-text.tags ++ c.in-Some-2.tag ∷ [] = search rules in
    let few : length c.push.new.self ≤ max_tags = grind (arith, length-append, added) in (
      one_more IsTagText (λ s. s.now) c.in-Some.texts.now c.loop-text.text-index _ (omega arith) _ _ _
          c.loop-text.invariant.0 (some_of _ _ _ _ c.in_ok-tag.ensures c.in-Some-2.is) added,
      few,
    )

pub returns : goal.returns
returns c =
    let texts = given_texts c.args.given.now _ _ _ _ c.get_strs.ensures c.name.ensures c.in-Some.is in
    let at_end : c.loop-text.text-index ≡ length c.in-Some.texts.now = omega arith in (
      ended IsTagText (λ s. s.now) c.in-Some.texts.now c.loop-text.text-index _ _ at_end texts c.loop-text.invariant.0,
      c.loop-text.invariant.1,
    )
