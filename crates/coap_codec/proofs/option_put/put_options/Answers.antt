use Rattle.std.proofs.Common.{◌≡◌, ◌++◌, ◌+◌, ◌≤◌, List, ℕ, [], length, get_or, drop, append_assoc, sym, subst, ◌∙◌, ap}
use Rattle.std.proofs.Common.{arith}
use Rattle.std.proofs.lemmas.List.{length-append, append-nil}
use Rattle.coap_types.specs.CoapOption.{option_of, options_of}
use Rattle.coap_types.specs.declared.options.Opt.{Opt}
use Rattle.coap_codec.specs.Writing.{Puts}
use Rattle.coap_codec.specs.Spelling.{option_bytes, options_bytes}
use Rattle.coap_codec.proofs.Spellings.OneWriteAfterAnother.{Puts-then, Puts-length}
use Rattle.coap_codec.proofs.OneOption.WhatIsLeft.{bytes_step, bytes_end, order_step, short_step}
use Rattle.coap_codec.proofs.option_put.put_options.Goals as goal

pub put_option-at-requires-clause-room : goal.put_option-at-requires-clause-room
put_option-at-requires-clause-room c =
    let d : Opt = record { number = 0; value = record { ref_ptr = (0, 0); now = [] } } in
    let xs = c.args.options.now in
    let i = c.loop-option.option-index in
    let v = c.loop-option.invariant in
    let x = get_or xs i d in
    let back = options_bytes x.number (options_of (drop (i + 1) xs)) in
    let step = ap length (bytes_step c.loop-option.base i xs d c.loop-option-test.true) in
    let split = length-append (option_bytes c.loop-option.base (option_of x)) back in
    let all = ap length v.done.1 in
    let halves = length-append v.done.0 (options_bytes c.loop-option.base (options_of (drop i xs))) in
    omega arith

pub loop-option-preserved : goal.loop-option-preserved
loop-option-preserved c =
    let d : Opt = record { number = 0; value = record { ref_ptr = (0, 0); now = [] } } in
    let xs = c.args.options.now in
    let i = c.loop-option.option-index in
    let v = c.loop-option.invariant in
    let x = get_or xs i d in
    let done = v.done.0 in
    let text = option_bytes c.loop-option.base (option_of x) in
    let back = options_bytes x.number (options_of (drop (i + 1) xs)) in
    let step = bytes_step c.loop-option.base i xs d c.loop-option-test.true in
    let all : options_bytes 0 (options_of xs) ≡ (done ++ text) ++ back = v.done.1 ∙ ap (λ (t : List ℕ). done ++ t) step
    ∙ sym (append_assoc done text back) in
    let n = ap length all in
    let halves = length-append (done ++ text) back in
    let quarters = length-append done text in
    let long : c.loop-option.at + length text ≤ length c.loop-option.out = omega arith in
    let start : c.loop-option.at ≤ length c.args.out.now = omega arith in
    record {
      order = (order_step c.loop-option.base i xs d c.loop-option-test.true v.order).1;
      short = (short_step c.loop-option.base i xs d c.loop-option-test.true v.short).1;
      same = Puts-length c.loop-option.out c.loop-option.at text c.put_option-at.new.out long
          c.put_option-at.ensures.written ∙ v.same;
      done = (
        done ++ text,
        all,
        omega arith,
        Puts-then c.args.out.now c.args.start done c.loop-option.out
            c.loop-option.at text c.put_option-at.new.out v.done.2 start v.done.3 c.put_option-at.ensures.written,
      );
    }

pub returns-clause-written : goal.returns-clause-written
returns-clause-written c =
    let i = c.loop-option.invariant in
    let none = bytes_end c.loop-option.base c.loop-option.option-index c.args.options.now c.loop-option-test.false in
    let all : options_bytes 0 (options_of c.args.options.now) ≡ i.done.0 = i.done.1
    ∙ ap (λ (t : List ℕ). i.done.0 ++ t) none ∙ append-nil i.done.0 in
    subst (λ (t : List ℕ). Puts c.args.out.now c.args.start t c.loop-option.out) (sym all) i.done.3

pub returns-clause-end : goal.returns-clause-end
returns-clause-end c =
    let i = c.loop-option.invariant in
    let none = bytes_end c.loop-option.base c.loop-option.option-index c.args.options.now c.loop-option-test.false in
    let all : options_bytes 0 (options_of c.args.options.now) ≡ i.done.0 = i.done.1
    ∙ ap (λ (t : List ℕ). i.done.0 ++ t) none ∙ append-nil i.done.0 in
    i.done.2 ∙ ap (λ (t : List ℕ). c.args.start + length t) (sym all)
