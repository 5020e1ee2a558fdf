use Rattle.std.proofs.Common.{rules, arith, sym}
use Rattle.std.proofs.Output.{has_written_of_eq}
use Rattle.std.proofs.lemmas.Grind.{put_two}
use Rattle.coap_print.proofs.WrittenHex.{hex_more, hex_nil}
use Rattle.coap_print.proofs.message_words.write_hex.Goals as goal

pub loop-byte-init : goal.loop-byte-init
loop-byte-init g c = λ plain. has_written_of_eq _ _ _ _ _ (sym hex_nil) (search rules)

pub loop-byte-preserved : goal.loop-byte-preserved
loop-byte-preserved g c = λ plain.
    put_two _ _ _ _ _ _ _ (c.loop-byte.invariant plain) (search rules)
    (hex_more _ c.loop-byte.byte-index 0 (omega arith))
