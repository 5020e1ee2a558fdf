use Rattle.std.proofs.Common.{◌≡◌, ◌+◌, ◌-◌, ◌≤◌, [], length, get_or, drop, refl, ap, arith}
use Rattle.std.proofs.lemmas.Bool.{lt-ltb, le-ltb}
use Rattle.std.proofs.lemmas.List.{length-append}
use Rattle.coap_types.specs.CoapOption.{option_of, options_of}
use Rattle.coap_types.specs.declared.options.Opt.{Opt}
use Rattle.coap_codec.specs.Spelling.{option_bytes, options_bytes}
use Rattle.coap_codec.proofs.OneOption.WhatIsLeft.{bytes_step, bytes_end, order_step, short_step}
use Rattle.coap_codec.proofs.option_put.room_behind.Goals as goal

pub returns-then-left-len : goal.returns-then-left-len
returns-then-left-len c =
    let d : Opt = record { number = 0; value = record { ref_ptr = (0, 0); now = [] } } in
    let step = ap length (bytes_step c.loop-option.base c.loop-option.option-index c.args.options.now d
    c.loop-option-test.true) in
    let x = get_or c.args.options.now c.loop-option.option-index d in
    let split = length-append (option_bytes c.loop-option.base (option_of x))
    (options_bytes x.number (options_of (drop (c.loop-option.option-index + 1) c.args.options.now))) in
    rw (lt-ltb c.args.room (length (options_bytes 0 (options_of c.args.options.now))) (omega arith)) refl

pub loop-option-preserved : goal.loop-option-preserved
loop-option-preserved c =
    let d : Opt = record { number = 0; value = record { ref_ptr = (0, 0); now = [] } } in
    let xs = c.args.options.now in
    let i = c.loop-option.option-index in
    let step = ap length (bytes_step c.loop-option.base i xs d c.loop-option-test.true) in
    let x = get_or xs i d in
    let split = length-append (option_bytes c.loop-option.base (option_of x))
    (options_bytes x.number (options_of (drop (i + 1) xs))) in
    record {
      order = (order_step c.loop-option.base i xs d c.loop-option-test.true c.loop-option.invariant.order).1;
      short = (short_step c.loop-option.base i xs d c.loop-option-test.true c.loop-option.invariant.short).1;
      total = omega arith;
    }

pub returns : goal.returns
returns c =
    let end = ap length (bytes_end c.loop-option.base c.loop-option.option-index c.args.options.now
    c.loop-option-test.false) in
    let all = length (options_bytes 0 (options_of c.args.options.now)) in
    let enough : all ≤ c.args.room = omega arith in
    let left : c.args.room - all ≡ c.loop-option.left = omega arith in
    rw (le-ltb c.args.room all enough, left) refl
