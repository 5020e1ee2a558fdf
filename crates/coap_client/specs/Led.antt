-- What a client keeps, with its exchanges; one call of it; and what leads to it (RFC 7252, section 5.2).
use Rattle.std.specs.Prelude.{List}
use Rattle.coap_types.specs.declared.endpoint.Endpoint.{Endpoint}
use Rattle.coap_layer.specs.Machine.State as L
use Rattle.coap_layer.specs.Machine.Steps.{left_after}
use Rattle.coap_layer.specs.declared.setup.Setup.{Setup}
use Rattle.coap_block.specs.Sizes.{Sizes}
use Rattle.coap_exchange.specs.Above as above
use Rattle.coap_exchange.specs.AskerTrace as E
use Rattle.coap_exchange.specs.AskerLaw as X
use Rattle.coap_client.specs.Trace.{Call}
use Rattle.coap_client.specs.Own.{Own, start}
use Rattle.coap_client.specs.Steps.{lower, IsRight, after}
use Rattle.coap_client.specs.Law.{own_of, lower_of}

-- what is kept: by the client itself, and by its exchanges
abbrev pub State : Type 0
State = above.State Own X.State

abbrev pub fresh_state : Endpoint → (sizes : Sizes) (setup : Setup) → State
fresh_state server sizes setup = record { own = start sizes; layer = X.fresh_state server setup }

-- one call
abbrev pub Step : State → Call → State → Type 0
Step old c new = above.Step IsRight after lower X.Exchanged old c new

-- these calls can leave it so
abbrev pub Led : Endpoint → (sizes : Sizes) (setup : Setup) → List Call → State → Type 0
Led server sizes setup trace s = above.Led IsRight after lower X.Exchanged (start sizes)
    (X.fresh_state server setup) trace s

-- the state that these calls leave, of the client and of its exchanges with their message layer

abbrev pub exchanges_left : Endpoint → Setup → List E.Call → X.State
exchanges_left server setup calls = record {
  own = X.own_of server setup calls;
  layer = left_after (L.start setup) (X.lower_of server setup calls);
}

abbrev pub state_left : Endpoint → (sizes : Sizes) (setup : Setup) → List Call → State
state_left server sizes setup trace = record {
  own = own_of sizes trace;
  layer = exchanges_left server setup (lower_of sizes trace);
}
