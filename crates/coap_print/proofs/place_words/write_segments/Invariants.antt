use Rattle.std.proofs.Common.{take, ◌≡◌, ◌==◌}
use Rattle.std.specs.Fmt.{HasWritten, IsPlainFormatter}
use Rattle.coap_types.specs.Path.{segments_of}
use Rattle.coap_print.proofs.WrittenPaths.{joined}
use Rattle.coap_print.proofs.place_words.write_segments.Given as goal

-- the first segments are written
abbrev pub invariant-loop-segment : goal.invariant-loop-segment
invariant-loop-segment g l =
    (l.is_first ≡ (l.segment-index == 0))
    × (IsPlainFormatter l.initial.f → HasWritten g.W.Write.write_str_gives l.initial.f
    (joined (segments_of (take l.segment-index l.segments))) l.f)
