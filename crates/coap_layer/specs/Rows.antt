-- The message layer's law (RFC 7252, section 4): each call, in its whole trace, is one of these rows.
use Rattle.coap_layer.specs.Trace.{Setup}
use Rattle.std.specs.Prelude.{◌≡◌, ◌≢◌, ◌⊎◌, ◌<◌, ◌≤◌, ℕ, ◌*◌, ◌-◌, true, false, Some, None, List, [], ◌∷◌, slice_get}
use Rattle.std.specs.Prelude.{if◌then◌else◌, ◌&&◌}
use Rattle.coap_types.specs.Past.{Ever, Always, Since}
use Rattle.coap_types.specs.Roles.{role_of}
use Rattle.coap_types.specs.declared.endpoint.Endpoint.{Endpoint}
use Rattle.coap_types.specs.declared.message.Kind.{Kind}
use Rattle.coap_types.specs.declared.message.Kind.TheVariants.{Con, Non, Ack, Rst}
use Rattle.coap_types.specs.declared.role.Role.TheVariants as role
use Rattle.coap_types.specs.SameEndpoint.{same_endpoint}
use Rattle.coap_codec.specs.Message.{Spells}
use Rattle.coap_codec.specs.Spelling.{message_bytes}
use Rattle.coap_layer.specs.BackOff.{factors}
use Rattle.coap_layer.specs.EmptyMessages.{reset_bytes}
use Rattle.coap_layer.specs.Arrivals.{Arrival, Unreadable, Faulted, Whole, Shows}
use Rattle.coap_layer.specs.Ids as ids
use Rattle.coap_layer.specs.Trace.{Content, with_head, Packet, Call, Receive, Reply, Confirm, Plain, Settle, Ticks}
use Rattle.coap_layer.specs.Trace.{Take, Room, AsksFree, Pass, Dropped, Replayed, Rejected, Request, Response, Acked}
use Rattle.coap_layer.specs.Trace.{Reset, Unmatched, Becomes, Nothing, Is, Sent, Busied, NoIds, Idle, Copied, Expired}
use Rattle.coap_layer.specs.Trace.{Gives, Entry}
use Rattle.coap_layer.specs.Words.{awaits, clock, Incoming, Remembered, remembered, was_con, replied, is_con, Open}
use Rattle.coap_layer.specs.Words.{is_to, outstanding, waiting, numbers}
use Rattle.coap_types.specs.declared.transmission.TheConstants.{LAST_RETRANSMISSION_MS as last_retransmission}
use Rattle.coap_types.specs.declared.transmission.TheConstants.{MAX_RETRANSMIT as max_retransmit}
use Rattle.coap_types.specs.declared.transmission.TheConstants.{FAILURE_TIMEOUTS as failure_timeouts}
use Rattle.coap_types.specs.declared.message.TheConstants.{MESSAGE_IDS as message_ids}

-- a CON to this place with this id is unacknowledged
abbrev pub Outstanding : List Entry → Endpoint → ℕ → Type 0
Outstanding past to id = Ever (λ c. is_to to id c ≡ true) (outstanding past)

-- a CON to this place is unacknowledged (NSTART is 1, section 4.7)
abbrev pub Busy : List Entry → Endpoint → Type 0
Busy past to = Ever (λ (c : Open). same_endpoint c.to to ≡ true) (outstanding past)

-- a Message ID may be given; none may
abbrev pub MayGive : Setup → List Entry → ℕ → Type 0
MayGive setup past now = ids.MayGive setup.word (numbers past) now

abbrev pub Withholds : Setup → List Entry → ℕ → Type 0
Withholds setup past now = ids.Withholds setup.word (numbers past) now

-- arrivals

-- a Reset: Empty, with the Message ID of what is rejected (section 4.2)
abbrev pub reset_to : Endpoint → ℕ → Packet
reset_to to id = record { to = to; bytes = reset_bytes id }

pub record Rejects (past : List Entry) (e : Entry) (m : Incoming) : Type 0 where
  pub kind : m.message.kind ≡ Con
  pub class : (role_of m.message.code ≡ role.Empty) ⊎ (role_of m.message.code ≡ role.Reserved)
  pub answer : e.answer ≡ Becomes Rejected
  pub out : e.out ≡ reset_to m.from m.message.id ∷ []

-- an Empty NON, or one of a reserved class
pub record IsStrayNon (m : Incoming) : Type 0 where
  pub kind : m.message.kind ≡ Non
  pub class : (role_of m.message.code ≡ role.Empty) ⊎ (role_of m.message.code ≡ role.Reserved)

-- a Reset that isn't Empty
pub record IsFullReset (m : Incoming) : Type 0 where
  pub kind : m.message.kind ≡ Rst
  pub class : role_of m.message.code ≢ role.Empty

-- an acknowledgement that carries a request, or is of a reserved class
pub record IsOddAck (m : Incoming) : Type 0 where
  pub kind : m.message.kind ≡ Ack
  pub class : (role_of m.message.code ≡ role.Request) ⊎ (role_of m.message.code ≡ role.Reserved)

-- any other acknowledgement, of what is not outstanding
pub record IsUnmatched (past : List Entry) (m : Incoming) : Type 0 where
  pub kind : m.message.kind ≡ Ack
  pub class : (role_of m.message.code ≡ role.Empty) ⊎ (role_of m.message.code ≡ role.Response)
  pub alone : Outstanding past m.from m.message.id → ⊥

-- a new CON or NON with a request or a response, where no more can be remembered
pub record FindsFull (setup : Setup) (past : List Entry) (e : Entry) (m : Incoming) : Type 0 where
  pub kind : (m.message.kind ≡ Con) ⊎ (m.message.kind ≡ Non)
  pub class : (role_of m.message.code ≡ role.Request) ⊎ (role_of m.message.code ≡ role.Response)
  pub new : Remembered past e.at m.from m.message.id → ⊥
  pub full : setup.remembered ≤ remembered e.at past

-- what is silently ignored
pub data Ignores (setup : Setup) (past : List Entry) (e : Entry) (m : Incoming) : Type 0 where
  ignores_non : IsStrayNon m → Ignores setup past e m
  ignores_reset : IsFullReset m → Ignores setup past e m
  ignores_ack : IsOddAck m → Ignores setup past e m
  ignores_unmatched : IsUnmatched past m → Ignores setup past e m
  ignores_new : FindsFull setup past e m → Ignores setup past e m

pub record Drops (setup : Setup) (past : List Entry) (e : Entry) (m : Incoming) : Type 0 where
  pub why : Ignores setup past e m
  pub answer : e.answer ≡ Becomes Dropped
  pub out : e.out ≡ []

pub record TakesAck (past : List Entry) (e : Entry) (m : Incoming) : Type 0 where
  pub kind : m.message.kind ≡ Ack
  pub class : role_of m.message.code ≡ role.Empty
  pub matches : Outstanding past m.from m.message.id
  pub answer : e.answer ≡ Becomes (Acked m.message.id)
  pub out : e.out ≡ []

pub record TakesReset (past : List Entry) (e : Entry) (m : Incoming) : Type 0 where
  pub kind : m.message.kind ≡ Rst
  pub class : role_of m.message.code ≡ role.Empty
  pub matches : Outstanding past m.from m.message.id
  pub answer : e.answer ≡ Becomes (Reset m.message.id)
  pub out : e.out ≡ []

-- a Reset of what is not outstanding, as of a NON (section 4.3): the layer above may know it
pub record PassesReset (past : List Entry) (e : Entry) (m : Incoming) : Type 0 where
  pub kind : m.message.kind ≡ Rst
  pub class : role_of m.message.code ≡ role.Empty
  pub alone : Outstanding past m.from m.message.id → ⊥
  pub answer : e.answer ≡ Becomes (Unmatched m.message.id)
  pub out : e.out ≡ []

-- a piggybacked response (section 5.2.1); retransmission goes on until the layer above settles it
pub record TakesAnswer (past : List Entry) (e : Entry) (m : Incoming) : Type 0 where
  pub kind : m.message.kind ≡ Ack
  pub class : role_of m.message.code ≡ role.Response
  pub matches : Outstanding past m.from m.message.id
  pub answer : e.answer ≡ Becomes (Response m.message)
  pub out : e.out ≡ []

-- the stored reply, where both are CONs
abbrev pub stored : List Entry → Incoming → List Packet
stored past m =
    if is_con m.message.kind && was_con m.from m.message.id past
    then elim (replied m.from m.message.id past) [ Some bytes ↦ record { to = m.from; bytes = bytes } ∷ [] | None ↦ [] ]
    else []

pub record Replays (past : List Entry) (e : Entry) (m : Incoming) : Type 0 where
  pub kind : (m.message.kind ≡ Con) ⊎ (m.message.kind ≡ Non)
  pub class : (role_of m.message.code ≡ role.Request) ⊎ (role_of m.message.code ≡ role.Response)
  pub old : Remembered past e.at m.from m.message.id
  pub answer : e.answer ≡ Becomes Replayed
  pub out : e.out ≡ stored past m

-- What is handed up: a CON request or a NON request for which a Message ID is free, which is remembered; a NON request
-- for which none is free, which is not; a response, which is remembered.
abbrev pub HandedAs : Setup → List Entry → Entry → Incoming → Type 0
HandedAs setup past e m =
    ((role_of m.message.code ≡ role.Request) × ((m.message.kind ≡ Con) ⊎ MayGive setup past e.at)
    × (e.answer ≡ Becomes (Request m.message true)))
    ⊎ ((role_of m.message.code ≡ role.Request) × (m.message.kind ≡ Non) × Withholds setup past e.at
    × (e.answer ≡ Becomes (Request m.message false)))
    ⊎ ((role_of m.message.code ≡ role.Response) × (e.answer ≡ Becomes (Response m.message)))

pub record HandsOver (setup : Setup) (past : List Entry) (e : Entry) (m : Incoming) : Type 0 where
  pub kind : (m.message.kind ≡ Con) ⊎ (m.message.kind ≡ Non)
  pub new : Remembered past e.at m.from m.message.id → ⊥
  pub room : remembered e.at past < setup.remembered
  pub answer : HandedAs setup past e m
  pub out : e.out ≡ []

-- a message, in the order of the table
pub data Sorts (setup : Setup) (past : List Entry) (e : Entry) (m : Incoming) : Type 0 where
  rejects : Rejects past e m → Sorts setup past e m
  drops : Drops setup past e m → Sorts setup past e m
  takes_ack : TakesAck past e m → Sorts setup past e m
  takes_reset : TakesReset past e m → Sorts setup past e m
  passes_reset : PassesReset past e m → Sorts setup past e m
  takes_answer : TakesAnswer past e m → Sorts setup past e m
  replays : Replays past e m → Sorts setup past e m
  hands_over : HandsOver setup past e m → Sorts setup past e m

-- a datagram: what can't be read, and a fault, are dropped, but for a fault in a CON, which is rejected
abbrev pub Arrives : Setup → List Entry → Entry → Endpoint → Arrival → Type 0
Arrives setup past e from Unreadable = (e.answer ≡ Becomes Dropped) × (e.out ≡ [])
Arrives setup past e from (Faulted Con id) = (e.answer ≡ Becomes Rejected) × (e.out ≡ reset_to from id ∷ [])
Arrives setup past e from (Faulted Non id) = (e.answer ≡ Becomes Dropped) × (e.out ≡ [])
Arrives setup past e from (Faulted Ack id) = (e.answer ≡ Becomes Dropped) × (e.out ≡ [])
Arrives setup past e from (Faulted Rst id) = (e.answer ≡ Becomes Dropped) × (e.out ≡ [])
Arrives setup past e from (Whole m) = Sorts setup past e (record { from = from; message = m })

-- sendings

-- whatever its type and Message ID, the content has a spelling
abbrev pub IsSpelled : Content → Type 0
IsSpelled content =
    (kind : Kind) (id : ℕ) → id < message_ids
    → Spells (message_bytes (with_head kind id content)) (with_head kind id content)

pub record SendsAs (kind : Kind) (setup : Setup) (past : List Entry) (e : Entry) (to : Endpoint)
    (content : Content) : Type 0 where
  pub id : ℕ
  pub gives : ids.Gives setup.word (numbers past) e.at id
  pub answer : e.answer ≡ Sent id
  pub out : e.out ≡ record { to = to; bytes = message_bytes (with_head kind id content) } ∷ []

pub record RefusesIds (setup : Setup) (past : List Entry) (e : Entry) : Type 0 where
  pub held : Withholds setup past e.at
  pub answer : e.answer ≡ NoIds
  pub out : e.out ≡ []

pub record RefusesBusy (past : List Entry) (e : Entry) (to : Endpoint) : Type 0 where
  pub busy : Busy past to
  pub answer : e.answer ≡ Busied
  pub out : e.out ≡ []

-- a CON is refused where one to that place is outstanding, and else where no Message ID is free
abbrev pub Confirms : Setup → List Entry → Entry → Endpoint → Content → Type 0
Confirms setup past e to content =
    RefusesBusy past e to ⊎ ((Busy past to → ⊥) × (RefusesIds setup past e ⊎ SendsAs Con setup past e to content))

abbrev pub Plains : Setup → List Entry → Entry → Endpoint → Content → Type 0
Plains setup past e to content = RefusesIds setup past e ⊎ SendsAs Non setup past e to content

abbrev pub Settles : List Entry → Entry → Endpoint → ℕ → Type 0
Settles past e to id =
    ((Outstanding past to id × (e.answer ≡ Is true)) ⊎ ((Outstanding past to id → ⊥) × (e.answer ≡ Is false)))
    × (e.out ≡ [])

-- is there room for a CON, and is a Message ID free
abbrev pub AsksRoom : Setup → List Entry → Entry → Endpoint → Type 0
AsksRoom setup past e to =
    (((Busy past to → ⊥) × MayGive setup past e.at × (e.answer ≡ Is true))
    ⊎ ((Busy past to ⊎ Withholds setup past e.at) × (e.answer ≡ Is false))) × (e.out ≡ [])

abbrev pub AsksIds : Setup → List Entry → Entry → Type 0
AsksIds setup past e =
    ((MayGive setup past e.at × (e.answer ≡ Is true)) ⊎ (Withholds setup past e.at × (e.answer ≡ Is false)))
    × (e.out ≡ [])

-- ticks (section 4.2)

-- so many initial timeouts have passed that the binary exponential back-off is over
abbrev pub Fails : ℕ → Open → Type 0
Fails now c = c.timeout * failure_timeouts ≤ now - c.first

-- a retransmission is due that was due at no earlier sending, and LAST_RETRANSMISSION_MS have not passed (profile)
pub record CopyDue (now : ℕ) (c : Open) : Type 0 where
  pub due : Ever (λ (k : ℕ). (c.last - c.first < c.timeout * k) × (c.timeout * k ≤ now - c.first))
      (factors max_retransmit)
  pub early : now - c.first ≤ last_retransmission

abbrev pub HasStep : ℕ → Open → Type 0
HasStep now c = Fails now c ⊎ CopyDue now c

-- the first of a list of which P holds
abbrev pub IsFirst : (Open → Type 0) → Open → List Open → Type 0
IsFirst P c cs = Since (λ x. (x ≡ c) × P x) (λ x. P x → ⊥) cs

pub record Copies (past : List Entry) (e : Entry) : Type 0 where
  pub con : Open
  pub first : IsFirst (HasStep e.at) con (outstanding past)
  pub alive : Fails e.at con → ⊥
  pub answer : e.answer ≡ Copied con.to con.id
  pub out : e.out ≡ record { to = con.to; bytes = con.bytes } ∷ []

pub record Expires (past : List Entry) (e : Entry) : Type 0 where
  pub con : Open
  pub first : IsFirst (HasStep e.at) con (outstanding past)
  pub fails : Fails e.at con
  pub answer : e.answer ≡ Expired con.to con.id
  pub out : e.out ≡ []

pub record Rests (past : List Entry) (e : Entry) : Type 0 where
  pub none : Ever (HasStep e.at) (outstanding past) → ⊥
  pub answer : e.answer ≡ Idle
  pub out : e.out ≡ []

pub data Turns (past : List Entry) (e : Entry) : Type 0 where
  copies : Copies past e → Turns past e
  expires : Expires past e → Turns past e
  rests : Rests past e → Turns past e

-- the table, by call
abbrev pub Row : Setup → List Entry → Entry → Call → Type 0
Row setup past e (Receive from bytes) =
    (what : Arrival) × Shows bytes what × Arrives setup past e from what
Row setup past e (Reply to id bytes) =
    (awaits past ≡ Some (record { from = to; id = id })) × (e.answer ≡ Nothing)
    × (e.out ≡ record { to = to; bytes = bytes } ∷ []) × (e.at ≡ clock past)
Row setup past e (Confirm to content wish) = IsSpelled content × Confirms setup past e to content
Row setup past e (Plain to content) = IsSpelled content × Plains setup past e to content
Row setup past e (Settle to id) = Settles past e to id × (e.at ≡ clock past)
Row setup past e Ticks = Turns past e
Row setup past e Take = (e.answer ≡ Gives (slice_get (waiting past) 0)) × (e.out ≡ []) × (e.at ≡ clock past)
Row setup past e (Room to) = AsksRoom setup past e to
Row setup past e AsksFree = AsksIds setup past e
Row setup past e Pass = (e.answer ≡ Nothing) × (e.out ≡ [])

pub record Stands (setup : Setup) (past : List Entry) (e : Entry) : Type 0 where
  pub time : clock past ≤ e.at
  pub row : Row setup past e e.call

-- the law of a layer that began so: the word picks the first Message ID, and so many messages are remembered at most
abbrev pub LayerLaw : Setup → List Entry → Type 0
LayerLaw setup = Always (Stands setup)
