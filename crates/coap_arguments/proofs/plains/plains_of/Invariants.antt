use Rattle.std.proofs.Common.{◌≤◌, [], length, map, take}
use Rattle.coap_arguments.specs.Plains.{Names}
use Rattle.coap_arguments.specs.declared.orders.TheConstants.{MAX_PLAINS as max_plains}
use Rattle.coap_arguments.proofs.plains.plains_of.Given as goal

-- the paths are those of the texts so far
abbrev pub invariant-loop-text : goal.invariant-loop-text
invariant-loop-text l = Names [] (map (λ s. s.now) (take l.text-index l.texts)) l.plains.items
    × (length l.plains.items ≤ max_plains)
