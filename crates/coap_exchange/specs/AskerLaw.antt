-- The law of the client's side, over whole traces of its calls, the newest first (RFC 7252, section 5).
use Rattle.std.specs.Prelude.{List}
use Rattle.coap_types.specs.declared.endpoint.Endpoint.{Endpoint}
use Rattle.coap_layer.specs.Machine.State as L
use Rattle.coap_layer.specs.Machine.Steps.{Asked, Steps, entries}
use Rattle.coap_layer.specs.Trace.{Entry}
use Rattle.coap_layer.specs.declared.setup.Setup.{Setup}
use Rattle.coap_exchange.specs.Above as above
use Rattle.coap_exchange.specs.Above.{sum_of, asked_by, Rows}
use Rattle.coap_exchange.specs.AskerTrace.{Own, start, Call}
use Rattle.coap_exchange.specs.AskerSteps.{lower, IsRight, after}

module _ (server : Endpoint) (setup : Setup) where
  -- what the calls so far add up to
  abbrev pub own_of : List Call → Own
  own_of trace = sum_of (start server setup.word) after trace

  -- the calls of the layer beneath, one behind the other: nothing is added or left out
  abbrev pub lower_of : List Call → List Asked
  lower_of trace = asked_by (start server setup.word) after lower trace

  -- each call has its row
  abbrev pub AskerLaw : List Call → Type 0
  AskerLaw trace = Rows (start server setup.word) after IsRight trace

  -- .. and what was asked of a layer that began with this setup was answered by it, step by step: what these steps add
  -- stands in the law of the layer
  abbrev pub ExchangeLaw : List Call → Type 0
  ExchangeLaw trace = above.Law IsRight after lower Steps (start server setup.word) (L.start setup) trace

  -- the trace of that layer
  abbrev pub below_of : List Call → List Entry
  below_of trace = entries (L.start setup) (lower_of trace)

-- what is kept: by the client's side itself, and by its layer
abbrev pub State : Type 0
State = above.State Own L.State

abbrev pub fresh_state : Endpoint → Setup → State
fresh_state server setup = record { own = start server setup.word; layer = L.start setup }

-- one call
abbrev pub Step : State → Call → State → Type 0
Step old c new = above.Step IsRight after lower Steps old c new

-- several, the newest first
abbrev pub Exchanged : State → List Call → State → Type 0
Exchanged old calls new = above.Chain IsRight after lower Steps old calls new

-- these calls can leave it so
abbrev pub Led : Endpoint → Setup → List Call → State → Type 0
Led server setup trace s = above.Led IsRight after lower Steps (start server setup.word) (L.start setup) trace s
