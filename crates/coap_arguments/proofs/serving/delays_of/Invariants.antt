use Rattle.std.proofs.Common.{◌≤◌, length, map, take}
use Rattle.coap_arguments.specs.Serving.{IsDelay}
use Rattle.coap_arguments.specs.Texts.{AreTexts}
use Rattle.coap_arguments.specs.declared.orders.TheConstants.{MAX_DELAYS as max_delays}
use Rattle.coap_arguments.proofs.serving.delays_of.Given as goal

-- the delays are those of the texts so far
abbrev pub invariant-loop-text : goal.invariant-loop-text
invariant-loop-text l = AreTexts IsDelay (map (λ s. s.now) (take l.text-index l.texts)) l.delays.items
    × (length l.delays.items ≤ max_delays)
