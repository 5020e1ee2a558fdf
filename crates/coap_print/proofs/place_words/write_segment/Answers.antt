use Rattle.std.proofs.Common.{rules, arith}
use Rattle.std.proofs.lemmas.Grind.{put_two}
use Rattle.coap_print.proofs.WrittenSegments.{one_more}
use Rattle.coap_print.proofs.place_words.write_segment.Goals as goal

pub loop-byte-preserved : goal.loop-byte-preserved
loop-byte-preserved g c = λ plain.
    put_two _ _ _ _ _ _ _ (c.loop-byte.invariant plain) (search rules)
    (one_more _ c.loop-byte.byte-index 0 (omega arith))
