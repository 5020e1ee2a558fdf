use Rattle.coap_types.proofs.Paths.SegmentsAreShort.{makes_path_within, paths_of_recognised}
use Rattle.coap_types.proofs.path.path_law.Goals as goal

pub returns-clause-within : goal.returns-clause-within
returns-clause-within c = makes_path_within

pub returns-clause-recognised : goal.returns-clause-recognised
returns-clause-recognised c = paths_of_recognised
