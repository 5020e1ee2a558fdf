use Rattle.std.proofs.Common.{List, ℕ, length, sym, subst, arith}
use Rattle.coap_codec.specs.Message.{Spells, message}
use Rattle.coap_codec.specs.Spelling.{message_bytes}
use Rattle.coap_codec.proofs.Spellings.RefusedHasNone.{refused_unspelled}
use Rattle.coap_codec.proofs.Spellings.WhatIsWritten.{front_of, back_of}
use Rattle.coap_codec.proofs.encoder.encode.Goals as goal

pub returns-in-Some-clause-none : goal.returns-in-Some-clause-none
returns-in-Some-clause-none c = refused_unspelled c.in-Some.refusal
    (message c.args.head.now c.args.options.now c.args.payload.now) (length c.args.out.now) c.in-Some.ensures.refused

pub returns-clause-spelled : goal.returns-clause-spelled
returns-clause-spelled c =
    let m = message c.args.head.now c.args.options.now c.args.payload.now in
    let can = c.in_default.ensures.none in
    let n = c.put_message.ensures.end in
    let bytes = front_of c.args.out.now (message_bytes m) c.put_message.new.out c.put_message.result n
    c.put_message.ensures.written in
    (omega arith, subst (λ (t : List ℕ). Spells t m) (sym bytes) can.spelled)

pub returns-clause-behind : goal.returns-clause-behind
returns-clause-behind c =
    let m = message c.args.head.now c.args.options.now c.args.payload.now in
    back_of c.args.out.now (message_bytes m) c.put_message.new.out c.put_message.result c.put_message.ensures.end
    c.put_message.ensures.written
