use Rattle.std.proofs.Common.{◌≡◌, drop}
use Rattle.coap_types.specs.CoapOption.{options_of}
use Rattle.coap_types.specs.OptionValues.{value_of}
use Rattle.coap_resource.proofs.request_options.value_of.Given as goal

abbrev pub invariant-loop-option : goal.invariant-loop-option
invariant-loop-option l = value_of l.number (options_of (drop l.option-index l.options))
    ≡ value_of l.number (options_of l.options)
