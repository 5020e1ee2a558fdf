use Rattle.std.proofs.Common.{◌∙◌, length, take, sym, ap, refl, arith, length-append}
use Rattle.std.proofs.lemmas.List.{append-nil, length-take-le}
use Rattle.std.proofs.lemmas.List.Folds.{length-flat_map-take}
use Rattle.coap_paths.specs.Escapes.{escape, escaped}
use Rattle.coap_paths.proofs.writing.put_escaped.Goals as goal

pub loop-byte-init : goal.loop-byte-init
loop-byte-init c =
    let none = append-nil (take c.args.len c.args.room.now) in
    record {
      end_is = sym (length-take-le c.args.len c.args.room.now c.requires) ∙ ap length (sym none);
      so_far = sym none;
      fits = c.requires;
      whole = refl;
    }

pub returns-in_err-end-clause-none : goal.returns-in_err-end-clause-none
returns-in_err-end-clause-none c =
    let so = c.loop-byte.invariant in
    let short = c.in_err-end.ensures.none in
    let all = length-flat_map-take escape c.args.segment.now c.loop-byte.byte-index 0 c.loop-byte-test.true in
    let written = escaped (take c.loop-byte.byte-index c.args.segment.now) in
    let both = length-append (take c.args.len c.args.room.now) written in
    let front = length-take-le c.args.len c.args.room.now c.requires in
    rw c.from_residual.ensures (omega (arith, so.end_is, so.whole))
