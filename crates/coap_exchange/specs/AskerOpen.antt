-- What is outstanding for the exchange that runs (RFC 7252, section 4.2).
use Rattle.std.specs.Prelude.{◌≡◌, List, Some, None}
use Rattle.coap_types.specs.declared.endpoint.Endpoint.{Endpoint}
use Rattle.coap_layer.specs.Rows.{Outstanding}
use Rattle.coap_layer.specs.declared.setup.Setup.{Setup}
use Rattle.coap_exchange.specs.declared.asker.Exchange.{Exchange}
use Rattle.coap_exchange.specs.AskerTrace.{Call}
use Rattle.coap_exchange.specs.AskerLaw.{own_of, below_of}

-- until it is acknowledged, the request of the exchange that runs is outstanding
abbrev pub IsOutstanding : Endpoint → Setup → List Call → Type 0
IsOutstanding server setup t = (x : Exchange) → (own_of server setup t).running ≡ Some x → x.acked ≡ None
    → Outstanding (below_of server setup t) server x.id.0
