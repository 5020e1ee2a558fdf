use Rattle.std.proofs.Common.{◌∷◌, [], List, ℕ, length, sym, subst, ap, arith}
use Rattle.std.proofs.lemmas.Bool.{eqb-false}
use Rattle.coap_codec.specs.Writing.{Puts}
use Rattle.coap_codec.proofs.Spellings.OneWriteAfterAnother.{Puts-then}
use Rattle.coap_codec.proofs.Spellings.WhatIsWritten.{marked_more}
use Rattle.coap_codec.proofs.payload.put_payload.Goals as goal

pub returns-clause-written : goal.returns-clause-written
returns-clause-written c =
    let m = marked_more c.args.payload.now (eqb-false (length c.args.payload.now) 0 (sym c.if-is_empty.ensures)) in
    let marker : List ℕ = 255 ∷ [] in
    let both = Puts-then c.args.out.now c.args.at marker c.put-at.new.out c.put-at.result c.args.payload.now
    c.put.new.out c.put-at.ensures.end (omega (arith, ap length m)) c.put-at.ensures.written c.put.ensures.written
    in
    subst (λ (t : List ℕ). Puts c.args.out.now c.args.at t c.put.new.out) (sym m) both
