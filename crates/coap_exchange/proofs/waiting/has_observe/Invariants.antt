use Rattle.std.proofs.Common.{◌≡◌, drop}
use Rattle.coap_types.specs.CoapOption.{options_of}
use Rattle.coap_types.specs.Recognised.{has_number}
use Rattle.coap_exchange.specs.AskerArrivals.{observe}
use Rattle.coap_exchange.proofs.waiting.has_observe.Given as goal

abbrev pub invariant-loop-option : goal.invariant-loop-option
invariant-loop-option l = has_number observe (options_of (drop l.option-index l.options))
    ≡ has_number observe (options_of l.options)
