use Rattle.std.proofs.Common.{◌≡◌, ◌≤◌, ◌+◌, ◌-◌, ◌*◌, ℕ, List, [], ◌∷◌, ◌++◌, length, arith, append_assoc, subst}
use Rattle.std.proofs.lemmas.List.{length-append}
use Rattle.coap_codec.specs.Writing.{Puts}
use Rattle.coap_codec.specs.Spelling.{nibble, more, option_bytes}
use Rattle.coap_codec.proofs.Spellings.OneWriteAfterAnother.{Puts-then}
use Rattle.coap_codec.proofs.option_put.put_option.Goals as goal

pub returns-clause-written : goal.returns-clause-written
unfolding option_bytes
returns-clause-written c =
    let out = c.args.out.now in
    let value = c.args.option.now.value.now in
    let d = more (c.args.option.now.number - c.args.base) in
    let l = more (length value) in
    let first : List ℕ = (nibble (c.args.option.now.number - c.args.base) * 16 + nibble (length value)) ∷ [] in
    let room : (c.args.at + 1) + (length d + (length l + length value)) ≤ length out =
    omega (arith, c.requires.room, length-append d (l ++ value), length-append l value) in
    let one : Puts out c.args.at first c.put-at.new.out =
    rw (← c.nibble.ensures, ← c.nibble-2.ensures) c.put-at.ensures.written in
    let at1 = c.put-at.ensures.end in
    let at2 = c.put_more-at.ensures.end in
    let at3 = c.put_more-at-2.ensures.end in
    let two = Puts-then out c.args.at first c.put-at.new.out c.put-at.result d c.put_more-at.new.out at1
    (omega arith) one c.put_more-at.ensures.written in
    let three = Puts-then out c.args.at (first ++ d) c.put_more-at.new.out c.put_more-at.result l
    c.put_more-at-2.new.out (omega (arith, length-append first d))
    (omega arith) two c.put_more-at-2.ensures.written in
    let four = Puts-then out c.args.at ((first ++ d) ++ l) c.put_more-at-2.new.out c.put_more-at-2.result value
    c.put.new.out (omega (arith, length-append first d, length-append (first ++ d) l))
    (omega arith) three c.put.ensures.written in
    let same : ((first ++ d) ++ l) ++ value ≡ first ++ (d ++ (l ++ value)) = simp append_assoc in
    subst (λ (t : List ℕ). Puts out c.args.at t c.put.new.out) same four
