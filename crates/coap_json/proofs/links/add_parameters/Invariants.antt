use Rattle.std.proofs.Common.{◌≡◌, ◌++◌, drop}
use Rattle.json.specs.Tree.{items_tokens}
use Rattle.coap_json.specs.LinkObjects.{parameter_items}
use Rattle.coap_json.proofs.links.add_parameters.Given as goal

-- what is written and what is left are the parameters
abbrev pub invariant-loop-parameter : goal.invariant-loop-parameter
invariant-loop-parameter g l =
    (l.writer.before ≡ l.initial.writer.before)
    × (l.initial.writer.tokens ++ items_tokens (parameter_items l.parameters)
    ≡ l.writer.tokens ++ items_tokens (parameter_items (drop l.parameter-index l.parameters)))
