use Rattle.std.proofs.Common.{◌≡◌, map, take}
use Rattle.knifesilver.specs.CallArguments.{AreTags}
use Rattle.knifesilver.specs.ClientCalls.{tag_bytes}
use Rattle.knifesilver.proofs.client.calls.tags_of.Given as goal

abbrev pub invariant-loop-tag : goal.invariant-loop-tag
invariant-loop-tag l = (l.tags ≡ map tag_bytes (take l.tag-index l.given)) × AreTags (take l.tag-index l.given)
