use Rattle.std.proofs.Common.{length, drop, replicate}
use Rattle.std.proofs.Math.Seq.{take-append_seam}
use Rattle.knifesilver.proofs.SameKeys.{same_key_is}
use Rattle.knifesilver.proofs.names.peer_key.key_law.Goals as goal

pub returns-clause-there_and_back : goal.returns-clause-there_and_back
returns-clause-there_and_back c = λ bytes is_key. take-append_seam bytes (drop (length bytes) (replicate 60 0))

pub returns-clause-same : goal.returns-clause-same
returns-clause-same c = same_key_is
