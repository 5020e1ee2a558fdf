-- The law of a client, over whole traces of its calls, the newest first (RFC 7252, section 5).
use Rattle.std.specs.Prelude.{List}
use Rattle.coap_types.specs.declared.endpoint.Endpoint.{Endpoint}
use Rattle.coap_layer.specs.Trace.{Entry}
use Rattle.coap_layer.specs.declared.setup.Setup.{Setup}
use Rattle.coap_block.specs.Sizes.{Sizes}
use Rattle.coap_exchange.specs.Above.{sum_of, asked_by, Rows}
use Rattle.coap_exchange.specs.AskerTrace as E
use Rattle.coap_exchange.specs.AskerLaw.{ExchangeLaw, below_of}
use Rattle.coap_client.specs.Trace.{Call}
use Rattle.coap_client.specs.Own.{Own, start}
use Rattle.coap_client.specs.Steps.{lower, IsRight, after}

module _ (sizes : Sizes) where
  -- what the calls so far add up to
  abbrev pub own_of : List Call → Own
  own_of trace = sum_of (start sizes) after trace

  -- the calls of the exchanges, one behind the other: nothing is added or left out
  abbrev pub lower_of : List Call → List E.Call
  lower_of trace = asked_by (start sizes) after lower trace

  -- each call has its row
  abbrev pub ClientRows : List Call → Type 0
  ClientRows trace = Rows (start sizes) after IsRight trace

-- .. and the calls of its exchanges stand in their law, those of the message layer in its own
pub record ClientLaw (server : Endpoint) (sizes : Sizes) (setup : Setup) (trace : List Call) : Type 0 where
  pub rows : ClientRows sizes trace
  pub exchanges : ExchangeLaw server setup (lower_of sizes trace)

-- the trace of the message layer
abbrev pub layer_of : Endpoint → (sizes : Sizes) (setup : Setup) → List Call → List Entry
layer_of server sizes setup trace = below_of server setup (lower_of sizes trace)
