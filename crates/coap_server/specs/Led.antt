-- The state of a server as an object, one call of it, and which calls can leave it so (RFC 7252, section 5).
use Rattle.std.specs.Prelude.{◌≡◌, ℕ, List}
use Rattle.coap_layer.specs.Machine.State as L
use Rattle.coap_layer.specs.Machine.Steps.{left_after}
use Rattle.coap_layer.specs.declared.setup.Setup.{Setup}
use Rattle.coap_resource.specs.Limits.{Limits}
use Rattle.coap_exchange.specs.AnswererLaw as X
use Rattle.coap_server.specs.Trace.{Own, start, Call}
use Rattle.coap_server.specs.Asks.{lower}
use Rattle.coap_server.specs.Steps.{IsRight, after}
use Rattle.coap_server.specs.Law.{own_of, lower_of, ServerRows}

-- what the server itself keeps, that of its exchanges included, and its message layer
pub record State : Type 0 where
  pub own : Own
  pub layer : L.State

abbrev pub exchanges_of : State → X.State
exchanges_of s = record { own = s.own.exchanges; layer = s.layer }

abbrev pub fresh_state : Limits → ℕ → Setup → State
fresh_state limits szx setup = record { own = start limits szx; layer = L.start setup }

-- one call
pub record Step (old : State) (c : Call) (new : State) : Type 0 where
  pub right : IsRight old.own c
  pub own_is : new.own ≡ after old.own c
  pub under : X.Exchanged (exchanges_of old) (lower old.own c) (exchanges_of new)

-- these calls can leave it so
pub record Led (limits : Limits) (szx : ℕ) (setup : Setup) (trace : List Call) (s : State) : Type 0 where
  pub rows : ServerRows limits szx trace
  pub own_is : s.own ≡ own_of limits szx trace
  pub exchanges : X.Led setup (lower_of limits szx trace) (exchanges_of s)

-- the state that these calls leave, of the server and of its message layer
abbrev pub state_left : (limits : Limits) (szx : ℕ) (setup : Setup) → List Call → State
state_left limits szx setup trace = record {
  own = own_of limits szx trace;
  layer = left_after (L.start setup) (X.lower_of (lower_of limits szx trace));
}
