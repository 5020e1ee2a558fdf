use Rattle.std.proofs.Common.{◌∷◌, [], arith, rules}
use Rattle.std.proofs.lemmas.List.{length-append}
use Rattle.coap_journal.proofs.Segments.{one_more}
use Rattle.coap_journal.proofs.Written.{long_text, no_text, short_more}
use Rattle.coap_journal.proofs.reading.read_texts.Goals as goal

pub loop-preserved : goal.loop-preserved
loop-preserved g c =
    let added = c.in-Ok.ensures.added in
    rw added (
      omega (arith, length-append c.loop.path (c.in-Some.segment.now ∷ []), c.loop.invariant.0),
      one_more c.args.bytes.now c.loop.rest.now c.in-Some.behind.now c.in-Some.segment.now c.loop.path
          c.loop.invariant.1 c.in-Some.ensures.some,
      short_more c.loop.path c.in-Some.segment.now c.loop.invariant.2 c.in-Some.ensures.short,
    )

pub returns-in-Err-SegmentTooLong-clause-written : goal.returns-in-Err-SegmentTooLong-clause-written
returns-in-Err-SegmentTooLong-clause-written g c path rest ok len e =
    absurd (long_text c.args.bytes.now c.loop.rest.now c.in-Some.behind.now c.in-Some.segment.now c.loop.path
    c.args.count
    c.loop.invariant.2 c.loop.invariant.1 (omega (arith, c.loop.invariant.0, c.loop-test.true)) c.in-Some.ensures.some
    c.in-Some.ensures.short (search rules) path rest ok len e)

pub returns-in-None-clause-written : goal.returns-in-None-clause-written
returns-in-None-clause-written g c path rest ok len e =
    absurd (no_text c.args.bytes.now c.loop.rest.now c.loop.path c.args.count
    c.loop.invariant.2 c.loop.invariant.1 (omega (arith, c.loop.invariant.0, c.loop-test.true)) c.in-None.ensures.none
    path rest ok len e)
