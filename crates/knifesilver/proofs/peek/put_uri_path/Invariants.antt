use Rattle.std.proofs.Common.{◌≡◌, ◌++◌, length}
use Rattle.coap_types.specs.CoapOption.{options_of}
use Rattle.coap_types.specs.RequestPath.{path_of}
use Rattle.coap_paths.specs.PathTexts.{IsText}
use Rattle.knifesilver.proofs.peek.put_uri_path.Given as goal

abbrev pub invariant-loop-option : goal.invariant-loop-option
invariant-loop-option l = (options_of l.yielded ++ l.option-iterator ≡ l.initial.option-iterator)
    × IsText (path_of (options_of l.yielded)) l.room l.len × (length l.room ≡ length l.initial.room)
