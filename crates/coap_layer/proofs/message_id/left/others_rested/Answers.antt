use Rattle.std.proofs.Common.{◌≡◌, ◌∙◌, ◌+◌, ◌-◌, ◌++◌, ap, arith, drop, length, length-drop, sym, take}
use Rattle.std.proofs.lemmas.List.{drop-map, take-map, take_all}
use Rattle.coap_layer.specs.Machine.IdState.{uses_of, use_of}
use Rattle.coap_layer.specs.Machine.Load.{rested_first}
use Rattle.coap_layer.proofs.message_id.left.others_rested.Goals as goal

pub returns-clause-rested : goal.returns-clause-rested
returns-clause-rested c =
    let now = c.args.now.0 in
    let group = c.args.group in
    let uses = c.args.last_used.now in
    let len = length-drop (group + 1) uses in
    let there = c.told-last_used in
    let all : take (16 - (group + 1)) (drop (group + 1) uses) ≡ drop (group + 1) uses =
    take_all (16 - (group + 1)) (drop (group + 1) uses) (omega (arith, len, there)) in
    c.rested_through.ensures.rested
    ∙ (ap (λ ls. rested_first now (uses_of ls ++ uses_of (take group uses))) all
    ∙ (ap (λ ls. rested_first now (ls ++ uses_of (take group uses))) (sym (drop-map use_of (group + 1) uses))
    ∙ ap (λ ls. rested_first now (drop (group + 1) (uses_of uses) ++ ls)) (sym (take-map use_of group uses))))
