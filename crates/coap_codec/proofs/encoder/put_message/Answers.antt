use Rattle.std.proofs.Common.{◌≡◌, ◌++◌, ◌+◌, List, ℕ, length, subst, ap, ◌∙◌, arith, append_assoc}
use Rattle.std.proofs.lemmas.List.{length-append}
use Rattle.coap_types.specs.CoapOption.{options_of}
use Rattle.coap_codec.specs.Message.{header, marked, message}
use Rattle.coap_codec.specs.Writing.{Puts}
use Rattle.coap_codec.specs.Spelling.{options_bytes, message_bytes}
use Rattle.coap_codec.proofs.Spellings.OneWriteAfterAnother.{Puts-then}
use Rattle.coap_codec.proofs.Spellings.WhatIsWritten.{message_length}
use Rattle.coap_codec.proofs.encoder.put_message.Goals as goal

pub returns-clause-written : goal.returns-clause-written
returns-clause-written c =
    let out = c.args.out.now in
    let m = message c.args.head.now c.args.options.now c.args.payload.now in
    let head = header m in
    let token = c.args.head.now.token in
    let options = options_bytes 0 (options_of c.args.options.now) in
    let payload = marked c.args.payload.now in
    let all = message_length m in
    let one : Puts out 0 head c.put-at.new.out =
    subst (λ (t : List ℕ). Puts out 0 t c.put-at.new.out) c.header.ensures c.put-at.ensures.written in
    let at1 : c.put-at.result ≡ 0 + length head = c.put-at.ensures.end
    ∙ ap (λ (t : List ℕ). 0 + length t) c.header.ensures in
    let second : Puts c.put-at.new.out c.put-at.result token c.put-at-2.new.out =
    rw (← c.as_slice-token.ensures.bytes) c.put-at-2.ensures.written in
    let at2 : c.put-at-2.result ≡ c.put-at.result + length token = c.put-at-2.ensures.end
    ∙ ap (λ (t : List ℕ). c.put-at.result + length t) c.as_slice-token.ensures.bytes in
    let two = Puts-then out 0 head c.put-at.new.out c.put-at.result token c.put-at-2.new.out at1
    (omega arith) one second in
    let three = Puts-then out 0 (head ++ token) c.put-at-2.new.out c.put-at-2.result options c.put_options-at.new.out
    (omega (arith, length-append head token)) (omega arith) two c.put_options-at.ensures.written in
    let four = Puts-then out 0 ((head ++ token) ++ options) c.put_options-at.new.out c.put_options-at.result payload
    c.put_payload.new.out (omega (
      arith,
      length-append head token,
      length-append (head ++ token) options,
      c.put_options-at.ensures.end,
    )) (omega (arith, c.put_options-at.ensures.end)) three c.put_payload.ensures.written
    in
    let same : ((head ++ token) ++ options) ++ payload ≡ message_bytes m = simp append_assoc in
    subst (λ (t : List ℕ). Puts out 0 t c.put_payload.new.out) same four
