-- What a server tells its observers in the datagrams of each call (RFC 7641, sections 3 and 4.2).
use Rattle.std.specs.Prelude.{◌≡◌, ◌≢◌, ◌⊎◌, ◌<◌, ◌^◌, ℕ, true, false, Some, List, ◌∷◌}
use Rattle.coap_types.specs.Past.{Ever, Sometime, Always}
use Rattle.coap_types.specs.declared.endpoint.Endpoint.{Endpoint}
use Rattle.coap_types.specs.declared.message.Kind.TheVariants.{Con}
use Rattle.coap_codec.specs.Message.{Message, Spells}
use Rattle.coap_layer.specs.Sends.{PlainOut}
use Rattle.coap_layer.specs.Trace as L
use Rattle.coap_layer.specs.Words.{Open, begun}
use Rattle.coap_layer.specs.declared.setup.Setup.{Setup}
use Rattle.coap_resource.specs.RequestOptions.{tag_of}
use Rattle.coap_resource.specs.Limits.{Limits}
use Rattle.coap_exchange.specs.Notifications.{is_notification, tag_in}
use Rattle.coap_server.specs.Trace.{Call}
use Rattle.coap_server.specs.Law.{own_of}
use Rattle.coap_server.specs.Follows.Serves.{Serving, serving}
use Rattle.coap_server.specs.Follows.Tells.{HearsAck, InCon, InNon, InReply, Pair, Telling, Way, registering}
use Rattle.coap_server.specs.Follows.Tells.{telling}
use Rattle.coap_server_laws.specs.Follows.Adds.{call_adds}

-- The message tells this there: under its token, with the entity-tag of its version.
pub record Conveys (x : Telling) (to : Endpoint) (m : Message) : Type 0 where
  pub to_is : x.to ≡ to
  pub token_is : x.token ≡ m.token
  pub tag_is : tag_in m ≡ Some (tag_of x.version)
  pub small : x.version < 2 ^ 64

-- an acknowledgement from there with this Message ID is taken
pub record TakesAck (to : Endpoint) (id : ℕ) (e : L.Entry) : Type 0 where
  pub bytes : List ℕ
  pub call : e.call ≡ L.Receive to bytes
  pub answer : e.answer ≡ L.Becomes (L.Acked id)

module _ (limits : Limits) (szx : ℕ) where
  -- the call tells what the message says, in this way
  pub record TellsIn (way : Way) (to : Endpoint) (m : Message) (past : List Call) (c : Call) : Type 0 where
    pub told : Telling
    pub here : telling (own_of limits szx past) c ≡ Some told
    pub way_is : told.way ≡ way
    pub conveys : Conveys told to m

  -- a request from there that came in no CON is served
  pub record ServesNon (to : Endpoint) (past : List Call) (c : Call) : Type 0 where
    pub request : Serving
    pub here : serving (own_of limits szx past) c ≡ Some request
    pub from : request.asked.from ≡ to
    pub kind : request.asked.kind ≢ Con

  -- A notification that the message layer is given in a call, that very call tells.
  pub record TellsSent (setup : Setup) (past : List Call) (c : Call) : Type 0 where
    pub begun_now : (con : Open) (m : Message) → Ever (λ b. begun b ≡ Some con) (call_adds limits szx setup past c)
        → Spells con.bytes m → is_notification m ≡ true
        → TellsIn (InCon con.id) con.to m past c
    pub replied : (to : Endpoint) (bytes : List ℕ) (m : Message)
        → Ever (λ b. b.call ≡ L.Reply to m.id bytes) (call_adds limits szx setup past c)
        → Spells bytes m
        → is_notification m ≡ true
        → TellsIn InReply to m past c
    -- A NON is the answer to a request that was no CON, or is told so.
    pub plain : (to : Endpoint) (bytes : List ℕ) (m : Message)
        → Ever (λ b. PlainOut b (record { to = to; bytes = bytes })) (call_adds limits szx setup past c)
        → Spells bytes m
        → is_notification m ≡ true
        → (TellsIn InReply to m past c × ServesNon to past c) ⊎ TellsIn InNon to m past c
    -- What is told is told at the moment of the call.
    pub now : (x : Telling) → telling (own_of limits szx past) c ≡ Some x → x.at ≡ (own_of limits szx (c ∷ past)).clock
    -- One CON begins in a call at most.
    pub one : (a b : Open) → Ever (λ e. begun e ≡ Some a) (call_adds limits szx setup past c)
        → Ever (λ e. begun e ≡ Some b) (call_adds limits szx setup past c) → a ≡ b

  abbrev pub AllTellSent : Setup → List Call → Type 0
  AllTellSent setup t = Always (TellsSent setup) t

  -- a request of this endpoint under this token is served, and makes the registration
  pub record ServesPair (p : Pair) (past : List Call) (c : Call) : Type 0 where
    pub registers : registering (own_of limits szx past) c ≡ Some p
    pub request : Serving
    pub here : serving (own_of limits szx past) c ≡ Some request
    pub from : request.asked.from ≡ p.to
    pub token_is : request.asked.token ≡ p.token

  abbrev pub pair_of : Telling → Pair
  pair_of x = record { to = x.to; token = x.token }

  -- What makes a registration serves a request of that endpoint and token.
  abbrev pub AllServePairs : List Call → Type 0
  AllServePairs t = Always (λ past c. (p : Pair) → registering (own_of limits szx past) c ≡ Some p
      → ServesPair p past c) t

  -- What is told is told by the call that makes its registration, or later.
  abbrev pub IsUnder : List Call → Call → Type 0
  IsUnder past c =
      (x : Telling) → telling (own_of limits szx past) c ≡ Some x
      → ((x.registers ≡ true) × ServesPair (pair_of x) past c)
      ⊎ ((x.registers ≡ false) × Sometime (ServesPair (pair_of x)) past)

  abbrev pub AreUnder : List Call → Type 0
  AreUnder t = Always IsUnder t

  -- An acknowledgement that is heard the message layer takes in that very call.
  abbrev pub AcksArrive : Setup → List Call → Type 0
  AcksArrive setup t = Always (λ past c. (to : Endpoint) (id : ℕ) → HearsAck to id c
      → Ever (TakesAck to id) (call_adds limits szx setup past c)) t
