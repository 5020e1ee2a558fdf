use Rattle.std.proofs.Common.{◌≡◌, ◌≤◌, ◌<◌, ◌^◌, ℕ, [], get_or, sym, ◌∙◌, ap, arith}
use Rattle.std.proofs.lemmas.List.{get_or_default}
use borrow.Author.Count.{below_more}
use Rattle.coap_types.specs.declared.options.Opt.{Opt}
use Rattle.coap_codec.proofs.OneOption.WhatIsLeft.{order_more}
use Rattle.coap_codec.proofs.option_list.ascends.Goals as goal

pub loop-option-preserved : goal.loop-option-preserved
loop-option-preserved c =
    let first : Opt = record { number = 0; value = record { ref_ptr = (0, 0); now = [] } } in
    let xs = c.args.options.now in
    let i = c.loop-option.option-index in
    let is = c.number_of-number.ensures in
    let rises : c.loop-option.base ≤ (get_or xs i first).number = omega arith in
    let step = order_more c.loop-option.base i xs first c.loop-option-test.true rises in
    let below : ℕ → Type 0 = λ k. (d : Opt) → (get_or xs k d).number < 2 ^ 16 in
    let here : below i = λ d. (let same : (get_or xs i d).number
    ≡ (get_or xs i first).number = ap (λ (o : Opt). o.number)
    (get_or_default xs i d first c.loop-option-test.true) in omega arith) in
    let more = below_more below i (λ k h d. c.loop-option.invariant.numbers k d h) here in
    record {
      rest = rw is (sym step ∙ c.loop-option.invariant.rest);
      numbers = λ k d h. more k h d;
    }

pub returns-clause-numbers : goal.returns-clause-numbers
returns-clause-numbers c = λ _ k d h. c.loop-option.invariant.numbers k d (omega arith)
