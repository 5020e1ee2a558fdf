-- The test of paths decides equality, and which options make no path.
use Rattle.std.proofs.Common.{◌≡◌, ℕ, List, Decides}
use Rattle.std.specs.Cmp.Lexicographic.{pointwise_decides, bytes_decides}
use Rattle.coap_types.specs.Path.{same_path}
use Rattle.coap_types.specs.RequestPath.{PathsOfRecognised}
use Rattle.coap_types.proofs.Paths.SegmentsAreShort as S

pub same_path-decides : (p q : List (List ℕ)) → Decides (same_path p q) (p ≡ q)
same_path-decides = pointwise_decides bytes_decides

pub paths_of_recognised : PathsOfRecognised
paths_of_recognised = S.paths_of_recognised
