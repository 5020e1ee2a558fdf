use Rattle.std.proofs.Common.{[], ◌∷◌, ◌++◌, arith}
use Rattle.std.proofs.lemmas.List.{length-append}
use Rattle.coap_journal.proofs.Appended.{framed_more, rest_is_less}
use Rattle.coap_journal.proofs.Written.{short_more}
use Rattle.coap_journal.proofs.wholeness.whole_frames.Goals as goal

pub loop-behind-smaller : goal.loop-behind-smaller
loop-behind-smaller c =
    omega (
      arith,
      rest_is_less c.loop-behind.at c.in-Some.field-0-0.now c.loop-behind.rest.now c.in-Some.behind.now
          c.in-Some.ensures.some,
    )

pub loop-behind-preserved : goal.loop-behind-preserved
loop-behind-preserved c =
    let so_far = c.loop-behind.invariant in
    let body = c.in-Some.field-0-0.now in
    let less = rest_is_less c.loop-behind.at body c.loop-behind.rest.now c.in-Some.behind.now c.in-Some.ensures.some in (
      so_far.0 ++ body ∷ [],
      short_more so_far.0 body so_far.1 c.in-Some.ensures.short,
      framed_more 0 c.loop-behind.at c.args.bytes.now c.loop-behind.rest.now c.in-Some.behind.now body so_far.0
          so_far.2 (omega (arith, so_far.4)) c.in-Some.ensures.some,
      omega (arith, so_far.3, length-append so_far.0 (body ∷ [])),
      omega (arith, so_far.4, less),
      omega (arith, so_far.5, less),
    )
