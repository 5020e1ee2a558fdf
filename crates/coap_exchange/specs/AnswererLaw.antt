-- The law of the server's side, over whole traces of its calls, the newest first (RFC 7252, section 5.2).
use Rattle.std.specs.Prelude.{List}
use Rattle.coap_layer.specs.Machine.State as L
use Rattle.coap_layer.specs.Machine.Steps.{Asked, Steps, entries}
use Rattle.coap_layer.specs.Trace.{Entry}
use Rattle.coap_layer.specs.declared.setup.Setup.{Setup}
use Rattle.coap_exchange.specs.Above as above
use Rattle.coap_exchange.specs.Above.{sum_of, asked_by, Rows}
use Rattle.coap_exchange.specs.AnswererTrace.{Own, start, Call}
use Rattle.coap_exchange.specs.AnswererSteps.{lower, IsRight, after}

-- what the calls so far add up to
abbrev pub own_of : List Call → Own
own_of trace = sum_of start after trace

-- the calls of the layer beneath, one behind the other: nothing is added or left out
abbrev pub lower_of : List Call → List Asked
lower_of trace = asked_by start after lower trace

-- each call has its row
abbrev pub AnswererLaw : List Call → Type 0
AnswererLaw trace = Rows start after IsRight trace

-- .. and what was asked of a layer that began with this setup was answered by it, step by step: what these steps add
-- stands in the law of the layer
abbrev pub ResponseLaw : Setup → List Call → Type 0
ResponseLaw setup trace = above.Law IsRight after lower Steps start (L.start setup) trace

-- the trace of that layer
abbrev pub below_of : Setup → List Call → List Entry
below_of setup trace = entries (L.start setup) (lower_of trace)

-- what is kept: by the server's side itself, and by its layer
abbrev pub State : Type 0
State = above.State Own L.State

abbrev pub fresh_state : Setup → State
fresh_state setup = record { own = start; layer = L.start setup }

-- one call
abbrev pub Step : State → Call → State → Type 0
Step old c new = above.Step IsRight after lower Steps old c new

-- several, the newest first
abbrev pub Exchanged : State → List Call → State → Type 0
Exchanged old calls new = above.Chain IsRight after lower Steps old calls new

-- these calls can leave it so
abbrev pub Led : Setup → List Call → State → Type 0
Led setup trace s = above.Led IsRight after lower Steps start (L.start setup) trace s
