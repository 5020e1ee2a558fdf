use Rattle.std.proofs.Common.{◌≡◌, ◌<◌, ◌^◌, None, ℕ, length, sym, ap, ◌∙◌, arith}
use Rattle.std.proofs.lemmas.Bool.{le-ltb}
use Rattle.coap_types.specs.CoapOption.{options_of}
use Rattle.coap_codec.specs.Spelling.{options_bytes}
use Rattle.coap_codec.specs.Writing.{room_after}
use Rattle.coap_codec.proofs.Spellings.RefusedHasNone.{Options-ascends, Options-short}
use Rattle.coap_codec.proofs.Spellings.WhatIsWritten.{options_are}
use Rattle.coap_codec.proofs.Spellings.ItsOwnBytes.{options_only}
use Rattle.coap_codec.proofs.option_list.options_len.Goals as goal
use Rattle.coap_codec.proofs.option_list.options_len.Goals.{then-not-ascends-via-then-not-ascends}
use Rattle.coap_codec.proofs.option_list.options_len.Goals.{then-not-ascends-via-else-not-ascends+then-not-are_short}

room_left : (n : ℕ) → n < 2 ^ 64 → room_after 18446744073709551615 n ≡ None → ⊥
room_left n few none = let left = le-ltb 18446744073709551615 n (omega arith) in cc (left, none)

pub returns-then-not-ascends-clause-none : goal.returns-then-not-ascends-clause-none
returns-then-not-ascends-clause-none c bytes is few =
    elim c.then-not-ascends.branch [
      | then-not-ascends-via-then-not-ascends w ↦ let order =
          Options-ascends (options_of c.args.options.now) 0 bytes is in let exact = c.ascends.ensures.exact in let no =
          w.if-not-ascends.true in absurd cc
      | then-not-ascends-via-else-not-ascends+then-not-are_short w ↦ let short =
          Options-short (options_of c.args.options.now) 0 bytes is in let exact = w.are_short.ensures in let no =
          w.if-not-are_short.true in absurd cc
    ]

pub returns-in_err-left-clause-none : goal.returns-in_err-left-clause-none
returns-in_err-left-clause-none c =
    rw c.from_residual.ensures (λ bytes is few.
    let os = options_of c.args.options.now in
    let all = options_are c.args.options.now 0 (sym c.ascends.ensures.exact ∙ c.if-not-ascends.false)
    (sym c.are_short.ensures ∙ c.if-not-are_short.false) (c.ascends.ensures.numbers c.if-not-ascends.false) in
    let same = ap length (options_only os 0 bytes is) in
    room_left (length (options_bytes 0 os)) (omega arith) (sym c.room_behind.ensures ∙ c.in_err-left.was))

pub returns-clause-spelled : goal.returns-clause-spelled
returns-clause-spelled c =
    options_are c.args.options.now 0 (sym c.ascends.ensures.exact ∙ c.if-not-ascends.false)
    (sym c.are_short.ensures ∙ c.if-not-are_short.false) (c.ascends.ensures.numbers c.if-not-ascends.false)
