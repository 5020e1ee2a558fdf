-- What contracts see of a client's side.
use Rattle.std.specs.Prelude.{◌≤◌, ℕ, Bool, Option, Some, None, List, length}
use Rattle.coap_types.specs.declared.endpoint.Endpoint.{Endpoint}
use Rattle.coap_layer.specs.Sendable.{IsSendable}
use Rattle.coap_layer.specs.Machine.State as L
use Rattle.coap_layer.specs.declared.up.SendRefusal.{SendRefusal}
use Rattle.coap_layer.specs.declared.up.SendRefusal.TheVariants as send
use Rattle.coap_exchange.specs.declared.asker.AskRefusal.{AskRefusal}
use Rattle.coap_exchange.specs.declared.asker.AskRefusal.TheVariants as refusal
use Rattle.coap_exchange.specs.declared.held.Held.{Held}
use Rattle.coap_exchange.specs.AskerTrace.{Request, Own}
use Rattle.coap_exchange.specs.AskerRequests.{content_of}
use Rattle.coap_exchange.specs.AskerLaw.{State}
use Rattle.coap_types.specs.declared.token.TheConstants.{MAX_TOKEN_LEN as max_token_len}

-- its state, the state that `undo` would leave, and whether there is room for a message
pub record Shown : Type 0 where
  pub state : State
  pub before : Option State
  pub has_room : Bool

abbrev pub own_with : ℕ → Endpoint → ℕ → Held → Own
own_with clock server word held =
    record { clock = clock; server = server; word = word; given = held.given; running = held.running; kept = held.kept }

abbrev pub state_of : L.State → Endpoint → ℕ → Held → State
state_of l server word held = record { own = own_with l.clock server word held; layer = l }

abbrev pub before_of : Option L.State → Endpoint → ℕ → Held → Option State
before_of None server word held = None
before_of (Some l) server word held = Some (state_of l server word held)

-- with any token of at most 8 bytes, the request can be sent
abbrev pub IsAskable : Request → Type 0
IsAskable r = (token : List ℕ) → length token ≤ max_token_len → IsSendable (content_of token r)

-- why a request is refused, by why its message is
abbrev pub refusal_as : SendRefusal → AskRefusal
refusal_as send.Outstanding = refusal.Running
refusal_as send.NoIds = refusal.NoIds
refusal_as send.Memory = refusal.Memory
