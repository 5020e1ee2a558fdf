use Rattle.std.proofs.Common.{◌≡◌, drop}
use Rattle.std.specs.List.{list_all}
use Rattle.coap_types.specs.CoapOption.{options_of}
use Rattle.coap_codec.specs.Refused.{is_short}
use Rattle.coap_codec.proofs.option_list.are_short.Given as goal

abbrev pub invariant-loop-option : goal.invariant-loop-option
invariant-loop-option l = list_all is_short (options_of (drop l.option-index l.options))
    ≡ list_all is_short (options_of l.options)
