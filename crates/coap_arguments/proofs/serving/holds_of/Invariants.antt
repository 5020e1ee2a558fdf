use Rattle.std.proofs.Common.{map, take}
use Rattle.coap_arguments.specs.Serving.{IsHold}
use Rattle.coap_arguments.specs.Texts.{AreTexts}
use Rattle.coap_arguments.proofs.serving.holds_of.Given as goal

-- what is held is what the texts so far say
abbrev pub invariant-loop-text : goal.invariant-loop-text
invariant-loop-text l = AreTexts IsHold (map (λ s. s.now) (take l.text-index l.texts)) l.holds.items
