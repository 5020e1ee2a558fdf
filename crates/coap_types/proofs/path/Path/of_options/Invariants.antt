use Rattle.std.proofs.Common.{◌≡◌, ◌++◌, length, drop}
use Rattle.coap_types.specs.CoapOption.{options_of}
use Rattle.coap_types.specs.RequestPath.{path_of, path_refusal, refusal_after}
use Rattle.coap_types.proofs.path.Path.of_options.Given as goal

-- the path so far and what is left make the whole, and are refused as the whole is
abbrev pub invariant-loop-option : goal.invariant-loop-option
invariant-loop-option g l =
    (l.path ++ path_of (options_of (drop l.option-index l.options)) ≡ path_of (options_of l.options))
    × (refusal_after (length l.path) (path_of (options_of (drop l.option-index l.options)))
    ≡ path_refusal (path_of (options_of l.options)))
