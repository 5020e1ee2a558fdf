use Rattle.std.proofs.Common.{◌≤◌, length, map, take}
use Rattle.coap_types.specs.declared.tag.TheConstants.{MAX_TAGS as max_tags}
use Rattle.coap_arguments.specs.Asking.{IsTagText}
use Rattle.coap_arguments.specs.Texts.{AreTexts}
use Rattle.coap_arguments.proofs.asking.tags_of.Given as goal

-- the tags are those of the texts so far
abbrev pub invariant-loop-text : goal.invariant-loop-text
invariant-loop-text l = AreTexts IsTagText (map (λ s. s.now) (take l.text-index l.texts)) l.tags
    × (length l.tags ≤ max_tags)
