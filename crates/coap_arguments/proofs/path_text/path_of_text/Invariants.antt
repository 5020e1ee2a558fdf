use Rattle.std.proofs.Common.{◌≡◌, map}
use Rattle.coap_types.specs.Path.{HoldsAtMost}
use Rattle.coap_types.specs.declared.path.TheConstants.{MAX_SEGMENT_LEN as max_segment_len}
use Rattle.coap_types.specs.declared.path.TheConstants.{MAX_SEGMENTS as max_segments}
use Rattle.coap_arguments.proofs.path_text.path_of_text.Given as goal

abbrev pub invariant-loop-segment : goal.invariant-loop-segment
invariant-loop-segment l = (l.path ≡ map (λ s. s.now) l.yielded) × HoldsAtMost max_segments max_segment_len l.path
