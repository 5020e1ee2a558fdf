-- What contracts see of a layer.
use Rattle.std.specs.Prelude.{◌≡◌, ℕ, Bool, true, Option, Some}
use Rattle.coap_types.specs.declared.endpoint.Endpoint.{Endpoint}
use Rattle.coap_layer.specs.Machine.State.{State}

-- its state, the state that `undo` would leave, whether there is room for a message, and whether a reply may be given
pub record Shown : Type 0 where
  pub state : State
  pub before : Option State
  pub has_room : Bool
  pub replies : Bool

-- A reply may be given to the message that came from there with this id, and is not refused memory.
pub record MayReply (s : Shown) (to : Endpoint) (id : ℕ) : Type 0 where
  pub awaited : s.state.awaits ≡ Some (record { from = to; id = id })
  pub room : s.has_room ≡ true
  pub replies : s.replies ≡ true
