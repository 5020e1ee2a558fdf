use Rattle.std.proofs.Common.{◌≡◌, take}
use Rattle.coap_asking.proofs.request.copy_of.Given as goal

-- the copy has the tags so far
abbrev pub invariant-loop-tag : goal.invariant-loop-tag
invariant-loop-tag l = l.copy ≡ take l.tag-index l.all
