-- The numbers of the refusals of a path's next segment, in the order in which they are tested.
use Rattle.std.specs.Prelude.{ℕ}
use Rattle.coap_types.specs.declared.path.PathRefusal.{PathRefusal}
use Rattle.coap_types.specs.declared.path.PathRefusal.TheVariants as path

-- the number of a segment's refusal
abbrev pub path_refusal_number : PathRefusal → ℕ
path_refusal_number path.SegmentTooLong = 1
path_refusal_number path.TooManySegments = 2
path_refusal_number path.Memory = 3
