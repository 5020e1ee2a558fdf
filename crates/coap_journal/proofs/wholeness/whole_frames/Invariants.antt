use Rattle.std.proofs.Common.{◌≡◌, ◌≤◌, ◌+◌, ◌++◌, ℕ, List, length}
use Rattle.coap_journal.specs.Frames.{frames}
use Rattle.coap_journal.specs.Input.{AreShort}
use Rattle.coap_journal.proofs.wholeness.whole_frames.Given as goal

abbrev pub invariant-loop-behind : goal.invariant-loop-behind
invariant-loop-behind l =
    (bodies : List (List ℕ)) × (AreShort bodies) × (l.fn.bytes ≡ frames 0 bodies ++ l.rest) × (length bodies ≡ l.frames)
    × (l.at + length l.rest ≡ length l.fn.bytes) × (l.frames ≤ l.at)

abbrev pub decreases-loop-behind : goal.decreases-loop-behind
decreases-loop-behind l = length l.rest
