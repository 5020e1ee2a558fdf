use Rattle.std.proofs.Common.{◌<◌, ◌^◌, length, refl, sym, ap, ◌∙◌, arith}
use Rattle.std.proofs.lemmas.Bool.{iff_false, leb-true, leb-false}
use Rattle.coap_types.specs.CoapOption.{options_of}
use Rattle.coap_codec.specs.Message.{message}
use Rattle.coap_codec.specs.Spelling.{message_bytes}
use Rattle.coap_codec.specs.Writing.{spelled_length}
use Rattle.coap_codec.proofs.Spellings.WhatIsWritten.{message_is, message_length}
use Rattle.coap_codec.proofs.encoder.refuses.Goals as goal

pub returns-then-not-has_room-clause-refused : goal.returns-then-not-has_room-clause-refused
returns-then-not-has_room-clause-refused c =
    let m = message c.args.head.now c.args.options.now c.args.payload.now in
    let code : m.code < 2 ^ 8 = omega arith in
    let id : m.id < 2 ^ 16 = omega arith in
    let bare = iff_false c.is_empty_not_bare.ensures c.if-is_empty_not_bare.false in
    let order = sym c.ascends.ensures.exact ∙ c.if-not-ascends.false in
    let short = sym c.are_short.ensures ∙ c.if-not-are_short.false in
    let spelled = message_is m c.args.options.now refl code id c.as_slice.ensures.few bare order short
    (c.ascends.ensures.numbers c.if-not-ascends.false) in
    let above = leb-false (spelled_length c.as_slice.result.now (options_of c.args.options.now) c.args.payload.now)
    c.args.room (sym c.has_room.ensures ∙ c.if-not-has_room.true) in
    let token = ap length c.as_slice.ensures.bytes in
    let all = message_length m in
    (message_bytes m, spelled, omega arith)

pub returns-clause-none : goal.returns-clause-none
returns-clause-none c =
    let m = message c.args.head.now c.args.options.now c.args.payload.now in
    let code : m.code < 2 ^ 8 = omega arith in
    let id : m.id < 2 ^ 16 = omega arith in
    let bare = iff_false c.is_empty_not_bare.ensures c.if-is_empty_not_bare.false in
    let order = sym c.ascends.ensures.exact ∙ c.if-not-ascends.false in
    let short = sym c.are_short.ensures ∙ c.if-not-are_short.false in
    let room = leb-true (spelled_length c.as_slice.result.now (options_of c.args.options.now) c.args.payload.now)
    c.args.room (sym c.has_room.ensures ∙ c.if-not-has_room.false) in
    let token = ap length c.as_slice.ensures.bytes in
    let all = message_length m in
    record {
      order = order;
      short = short;
      fits = omega arith;
      spelled = message_is m c.args.options.now refl code id c.as_slice.ensures.few bare order short
          (c.ascends.ensures.numbers c.if-not-ascends.false);
    }
