use Rattle.std.proofs.Common.{◌≡◌, ◌∙◌, ◌++◌, ◌∷◌, [], length, take, sym, ap, arith, length-append}
use Rattle.std.proofs.lemmas.List.{append_assoc, length-set, length-take-le, take_more_set}
use Rattle.coap_paths.specs.Escapes.{unescaped}
use Rattle.coap_paths.proofs.Nexts.{next_is}
use Rattle.coap_paths.proofs.escapes.unescape.Goals as goal

pub returns-then-len-ge-MAX_SEGMENT_LEN-clause-none : goal.returns-then-len-ge-MAX_SEGMENT_LEN-clause-none
returns-then-len-ge-MAX_SEGMENT_LEN-clause-none c well =
    let n = next_is c.bytes.left.now c.in-Some.byte c.in-Some.after.now c.in-Some.ensures.some in
    let says = ap length n.says in
    let so_far = ap length c.bytes.invariant.so_far in
    let both = length-append (take c.bytes.len c.bytes.room) (unescaped c.bytes.left.now) in
    let front : length (take c.bytes.len c.bytes.room) ≡ c.bytes.len =
    length-take-le c.bytes.len c.bytes.room (omega (arith, c.bytes.invariant.whole, c.bytes.invariant.fits)) in
    omega (arith, c.if-len-ge-MAX_SEGMENT_LEN.true)

pub bytes-preserved : goal.bytes-preserved
bytes-preserved c =
    let b = c.bytes in
    let n = next_is b.left.now c.in-Some.byte c.in-Some.after.now c.in-Some.ensures.some in
    record {
      so_far = ap (λ l. l ++ unescaped c.in-Some.after.now)
          (take_more_set b.room b.len c.in-Some.byte
          (omega (arith, b.invariant.whole, c.if-len-ge-MAX_SEGMENT_LEN.false)))
          ∙ (append_assoc (take b.len b.room) (c.in-Some.byte ∷ []) (unescaped c.in-Some.after.now)
          ∙ (ap (λ l. take b.len b.room ++ l) (sym n.says) ∙ b.invariant.so_far));
      well = sym n.well ∙ b.invariant.well;
      fits = omega (arith, c.if-len-ge-MAX_SEGMENT_LEN.false);
      whole = length-set b.room b.len c.in-Some.byte ∙ b.invariant.whole;
    }
