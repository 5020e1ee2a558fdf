use Rattle.std.proofs.Common.{◌≡◌, ◌<◌, ◌+◌, true, Result, Ok, Err, OnOk, ap, arith, [], length, take, sym}
use Rattle.std.proofs.Common.{length-take-le}
use Rattle.std.proofs.lemmas.Bool.{false≢true}
use Rattle.core.specs.Result.{is_ok}
use Rattle.std.proofs.lemmas.Grind.{common_steps}
use Rattle.std.proofs.lemmas.List.{length-map}
use Rattle.std.proofs.lemmas.List.Elements.{All-more}
use Rattle.knifesilver.specs.CallArguments.{IsTag}
use Rattle.knifesilver.specs.ClientCalls.{tag_bytes}
use Rattle.knifesilver.proofs.client.calls.tags_of.Goals as goal

known_ok : {T E P : Type 0} (result : Result T E) → OnOk result P → true ≡ is_ok result → P
known_ok (Ok value) on is = on
known_ok (Err why) on is = absurd (false≢true (sym is))

pub loop-tag-preserved : goal.loop-tag-preserved
loop-tag-preserved c =
    let given = c.args.given.now in
    let so_far = c.loop-tag in
    let place = c.loop-tag-test.true in
    let room : length so_far.tags < 4 = known_ok c.push.result c.push.ensures.room c.in_ok-ok.ensures.variant in
    let before = length-take-le so_far.tag-index given (omega (arith, place)) in
    let after = length-take-le (so_far.tag-index + 1) given (omega (arith, place)) in
    let many = length-map (take so_far.tag-index given) tag_bytes in (
      grind (arith, common_steps, so_far.invariant.0),
      record {
        few = omega (arith, room, ap length so_far.invariant.0, many, before, after);
        each = All-more IsTag given so_far.tag-index (record { len = 0; bytes = [] }) place so_far.invariant.1.each
            (grind (arith, c.in_ok-bytes.ensures.lookup, c.in_ok-new.ensures, c.from.ensures));
      },
    )
