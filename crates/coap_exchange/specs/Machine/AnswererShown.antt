-- What contracts see of a server's side.
use Rattle.std.specs.Prelude.{◌≡◌, ◌≢◌, ◌<◌, ◌⊎◌, ℕ, max, Bool, true, false, Option, Some, None, List}
use Rattle.std.specs.Option.{option_map}
use Rattle.coap_types.specs.Roles.{role_of}
use Rattle.coap_types.specs.declared.endpoint.Endpoint.{Endpoint}
use Rattle.coap_types.specs.declared.message.Id.{Id}
use Rattle.coap_types.specs.declared.message.Kind.TheVariants.{Con}
use Rattle.coap_types.specs.declared.role.Role.TheVariants as role
use Rattle.coap_layer.specs.Sendable.{IsSendable}
use Rattle.coap_layer.specs.Machine.Shown as shown
use Rattle.coap_layer.specs.Machine.Shown.{MayReply}
use Rattle.coap_layer.specs.Machine.State as L
use Rattle.coap_layer.specs.Machine.State.{is_free, is_busy, answer_of}
use Rattle.coap_layer.specs.Trace as T
use Rattle.coap_exchange.specs.declared.answerer.Asked.{Asked}
use Rattle.coap_exchange.specs.declared.answerer.Ended.{Ended}
use Rattle.coap_exchange.specs.declared.separate.Deferred.{Deferred}
use Rattle.coap_exchange.specs.declared.separate.Separate.{Separate}
use Rattle.coap_exchange.specs.AnswererTrace.{Response, Own, Sending}
use Rattle.coap_exchange.specs.AnswererSteps.{content_with, ready_at}
use Rattle.coap_exchange.specs.AnswererLaw.{State}

-- its state, the state that `undo` would leave, whether the request that the last input handed up may be answered, and
-- whether there is room for a separate response
pub record Shown : Type 0 where
  pub state : State
  pub before : Option State
  pub answerable : Bool
  pub room : Bool

abbrev pub own_with : ℕ → Option Asked → List Deferred → List Separate → Option Ended → Option Sending → Own
own_with clock pending deferred separate ended unmatched =
    record {
      clock = clock;
      pending = pending;
      deferred = deferred;
      separate = separate;
      ended = ended;
      unmatched = unmatched;
    }

abbrev pub state_of : L.State → Option Asked → List Deferred → List Separate → Option Ended → Option Sending → State
state_of l pending deferred separate ended unmatched =
    record { own = own_with l.clock pending deferred separate ended unmatched; layer = l }

abbrev pub before_of : Option L.State → Option Asked → List Deferred → List Separate → Option Ended → Option Sending
    → Option State
before_of None pending deferred separate ended unmatched = None
before_of (Some l) pending deferred separate ended unmatched =
    Some (state_of l pending deferred separate ended unmatched)

-- a Reset's endpoint and Message ID
abbrev pub sending_as : Option (Endpoint × Id) → Option Sending
sending_as None = None
sending_as (Some p) = Some (record { to = p.0; id = p.1.0 })

-- The request is the one that the last input handed up, and nothing was sent or taken back since: what answers or
-- defers it is not refused memory.
pub record MayAnswer (s : Shown) (a : Asked) : Type 0 where
  pub answerable : s.answerable ≡ true
  pub pending : s.state.own.pending ≡ Some a

-- It was said at this moment that a CON can be sent there, and nothing was sent or taken back since: what sends it is
-- not refused memory.
pub record MayNotify (s : Shown) (now : ℕ) (to : Endpoint) : Type 0 where
  pub room : s.room ≡ true
  pub idle : is_busy to s.state.layer.open_cons ≡ false
  pub free : is_free (max s.state.layer.clock now) s.state.layer.upcoming s.state.layer.last_used ≡ true

-- The last input said at this moment that the deferred request is ready: what responds to it is not refused memory.
pub record MayRespond (s : Shown) (now : ℕ) (a : Asked) : Type 0 where
  pub ready : option_map (λ (d : Deferred). d.asked) (ready_at s.state.own now) ≡ Some a
  pub con : MayNotify s now a.from

-- a code of class 2 to 5, in a message of at most 1,152 bytes
pub record IsAnswerWith (token : List ℕ) (r : Response) : Type 0 where
  pub code : role_of r.code ≡ role.Response
  pub sendable : IsSendable (content_with token r)

abbrev pub IsAnswer : Asked → Response → Type 0
IsAnswer a r = IsAnswerWith a.token r

-- what stands of the layer while a request may be answered: it takes a reply, and for a NON a Message ID is free
pub record Takes (l : shown.Shown) (a : Asked) : Type 0 where
  pub reply : MayReply l a.from a.id.0
  pub free : a.kind ≢ Con → is_free l.state.clock l.state.upcoming l.state.last_used ≡ true

abbrev pub IsAnswerable : Bool → shown.Shown → Option Asked → Type 0
IsAnswerable answerable l pending = answerable ≡ true → (a : Asked) → pending ≡ Some a → Takes l a

-- asking whether a CON can be sent there takes no memory: there is room for it, or it can't
abbrev pub AsksFreely : shown.Shown → ℕ → Endpoint → Type 0
AsksFreely l now to = (l.has_room ≡ true) ⊎ (answer_of l.state (max l.state.clock now) (T.Room to) ≡ T.Is false)

-- what stands where there is room
abbrev pub HasPlace : Bool → shown.Shown → ℕ → ℕ → Type 0
HasPlace room l len capacity = room ≡ true → (l.has_room ≡ true) × (len < capacity)
