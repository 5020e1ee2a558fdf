use Rattle.std.proofs.Common.{◌<◌, ◌+◌, ◌∙◌, length, subst, sym}
use Rattle.coap_paths.specs.Escapes.{escaped}
use Rattle.coap_paths.proofs.WrittenPaths.{one_more, segment_at, too_long}
use Rattle.coap_paths.proofs.writing.put_path.Goals as goal

pub returns-in_err-len-clause-none : goal.returns-in_err-len-clause-none
returns-in_err-len-clause-none g c =
    let path = c.args.path.now in
    let so_far = c.loop-segment in
    let segment = c.deref.result.now in
    let at = segment_at c.segments-segment-items.result.now path so_far.segment-index c.segment-item.result segment
    c.segments-segment-items.ensures.segments c.loop-segment-test.true (sym c.segment-item.is) c.deref.ensures.value in
    rw c.from_residual.ensures (too_long path so_far.segment-index segment _ so_far.len at.0 at.1 so_far.invariant.0.0
    (subst (λ n. n < so_far.len + (1 + length (escaped segment))) so_far.invariant.1 c.in_err-len.ensures.none))

pub loop-segment-preserved : goal.loop-segment-preserved
loop-segment-preserved g c =
    let path = c.args.path.now in
    let so_far = c.loop-segment in
    let segment = c.deref.result.now in
    let at = segment_at c.segments-segment-items.result.now path so_far.segment-index c.segment-item.result segment
    c.segments-segment-items.ensures.segments c.loop-segment-test.true (sym c.segment-item.is) c.deref.ensures.value in (
      one_more path so_far.segment-index segment so_far.room c.put_segment.new.room so_far.len c.in_ok-len.len
          at.0 at.1 so_far.invariant.0.1 c.in_ok-len.ensures.put.0 c.in_ok-len.ensures.put.1,
      c.put_segment.ensures.whole ∙ so_far.invariant.1,
    )
