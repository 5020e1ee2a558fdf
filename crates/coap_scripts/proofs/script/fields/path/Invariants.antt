use Rattle.std.proofs.Common.{◌≡◌, ◌++◌, length}
use Rattle.coap_types.specs.Path.{HoldsAtMost}
use Rattle.coap_types.specs.declared.path.TheConstants.{MAX_SEGMENT_LEN as max_segment_len}
use Rattle.coap_types.specs.declared.path.TheConstants.{MAX_SEGMENTS as max_segments}
use Rattle.coap_arguments.specs.PathText.{parts}
use Rattle.coap_scripts.proofs.script.fields.path.Given as goal

abbrev pub decreases-segments : goal.decreases-segments
decreases-segments g l = length l.left

abbrev pub invariant-segments : goal.invariant-segments
invariant-segments g l = (l.path ++ parts l.left ≡ parts l.initial.left)
    × HoldsAtMost max_segments max_segment_len l.path
