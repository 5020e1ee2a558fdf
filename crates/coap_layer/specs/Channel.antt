-- Two layers, and the datagrams between them, in the words of one clock (RFC 7252, sections 4.2 to 4.5). None arrives
-- later than MAX_LATENCY after it was sent (section 4.8.2). `Paced` says what they do, each by its own clock, and
-- `OneClock` what two do that have one.
use Rattle.std.specs.Prelude.{◌≡◌, ◌⊎◌, ◌≤◌, ℕ, ◌+◌, true, Some, None, List, [], ◌∷◌}
use Rattle.coap_types.specs.Past.{Ever, Sometime, Always, Since}
use Rattle.coap_types.specs.declared.endpoint.Endpoint.{Endpoint}
use Rattle.coap_types.specs.declared.message.Kind.TheVariants.{Con, Non, Ack, Rst}
use Rattle.coap_codec.specs.Message.{Message, Spells}
use Rattle.coap_layer.specs.Trace.{Receive, Reply, Response, Acked, Answer, Becomes, Entry}
use Rattle.coap_layer.specs.Words.{Incoming, handed, taken, hands_up, Open, begun, outstanding}
use Rattle.coap_layer.specs.Sends.{IsIn, PlainOut, GoesOut}
use Rattle.coap_types.specs.declared.transmission.TheConstants.{LAST_ARRIVAL_MS as last_arrival}
use Rattle.coap_types.specs.declared.transmission.TheConstants.{MAX_LATENCY_MS as max_latency}

-- an entry of the one layer, or of the other
pub data Hop : Type 0 where
  Near : (entry : Entry) → Hop
  Far : (entry : Entry) → Hop

abbrev pub near_of : List Hop → List Entry
near_of [] = []
near_of (Near e ∷ past) = e ∷ near_of past
near_of (Far e ∷ past) = near_of past

abbrev pub far_of : List Hop → List Entry
far_of [] = []
far_of (Near e ∷ past) = far_of past
far_of (Far e ∷ past) = e ∷ far_of past

abbrev pub OnNear : (Entry → Type 0) → Hop → Type 0
OnNear P (Near e) = P e
OnNear P (Far e) = ⊥

abbrev pub OnFar : (Entry → Type 0) → Hop → Type 0
OnFar P (Near e) = ⊥
OnFar P (Far e) = P e

-- it was sent there, at most MAX_LATENCY before
pub record GaveOut (to : Endpoint) (bytes : List ℕ) (when : ℕ) (e : Entry) : Type 0 where
  pub out : IsIn (record { to = to; bytes = bytes }) e.out
  pub from : e.at ≤ when
  pub till : when ≤ e.at + max_latency

-- the message that was handed up last, at this moment
abbrev pub IsLatest : List Entry → ℕ → Incoming → Type 0
IsLatest past at m = Since (λ h. (handed h ≡ Some m) × (h.at ≡ at)) (λ h. handed h ≡ None) past

-- A reply is given at the moment at which the message was handed up. It is a Reset, or the acknowledgement of a CON
-- (a NON isn't acknowledged: section 4.3), with the message's Message ID (section 4.2).
pub record RepliesAtOnce (past : List Entry) (at id : ℕ) (bytes : List ℕ) : Type 0 where
  pub to_what : Incoming
  pub latest : IsLatest past at to_what
  pub reply : Message
  pub spells : Spells bytes reply
  pub id_is : reply.id ≡ id
  pub kind : (reply.kind ≡ Rst) ⊎ ((reply.kind ≡ Ack) × (to_what.message.kind ≡ Con))

abbrev pub RepliesSo : List Entry → Entry → Type 0
RepliesSo past e =
    (to : Endpoint) (id : ℕ) (bytes : List ℕ) → e.call ≡ Reply to id bytes → RepliesAtOnce past e.at id bytes

-- the CON or NON that is handed up arrived in these bytes; a CON is remembered
pub record HandedBy (e : Entry) (m : Incoming) : Type 0 where
  pub bytes : List ℕ
  pub call : e.call ≡ Receive m.from bytes
  pub spells : Spells bytes m.message
  pub kind : (m.message.kind ≡ Con) ⊎ (m.message.kind ≡ Non)
  pub kept : m.message.kind ≡ Con → taken e ≡ Some m

abbrev pub HandedAsSpelled : List Entry → Type 0
HandedAsSpelled t = Always (λ past e. (m : Incoming) → handed e ≡ Some m → HandedBy e m) t

-- What arrives is what the other layer sends by one of its rows, at most MAX_LATENCY before.
pub record SentSo (to : Endpoint) (bytes : List ℕ) (when : ℕ) (past : List Entry) (e : Entry) : Type 0 where
  pub goes : GoesOut past e (record { to = to; bytes = bytes })
  pub from : e.at ≤ when
  pub till : when ≤ e.at + max_latency

abbrev pub ArrivesAsSent : Endpoint → Endpoint → List Hop → Type 0
ArrivesAsSent near far all =
    Always (λ past e. (x : Entry) (bytes : List ℕ) → e ≡ Far x → x.call ≡ Receive near bytes
    → Sometime (SentSo far bytes x.at) (near_of past)) all

-- A CON that arrives was begun at most LAST_ARRIVAL_MS before, with these bytes, for this place.
pub record BegunAs (to : Endpoint) (bytes : List ℕ) (id when : ℕ) (t : List Entry) : Type 0 where
  pub con : Open
  pub begun : Ever (λ b. begun b ≡ Some con) t
  pub to_is : con.to ≡ to
  pub bytes_are : con.bytes ≡ bytes
  pub id_is : con.id ≡ id
  pub from : con.first ≤ when
  pub till : when ≤ con.first + last_arrival

abbrev pub ConsBegun : Endpoint → Endpoint → List Hop → Type 0
ConsBegun near far all =
    Always (λ past e. (x : Entry) (bytes : List ℕ) (m : Message) → e ≡ Far x → x.call ≡ Receive near bytes
    → Spells bytes m → m.kind ≡ Con
    → BegunAs far bytes m.id x.at (near_of past)) all

-- A NON that arrives was sent at most MAX_LATENCY before.
pub record PlainSent (to : Endpoint) (bytes : List ℕ) (when : ℕ) (e : Entry) : Type 0 where
  pub goes : PlainOut e (record { to = to; bytes = bytes })
  pub from : e.at ≤ when
  pub till : when ≤ e.at + max_latency

abbrev pub NonsSent : Endpoint → Endpoint → List Hop → Type 0
NonsSent near far all =
    Always (λ past e. (x : Entry) (bytes : List ℕ) (m : Message) → e ≡ Far x → x.call ≡ Receive near bytes
    → Spells bytes m → m.kind ≡ Non
    → Ever (PlainSent far bytes x.at) (near_of past)) all

-- the answer takes the acknowledgement with this Message ID, Empty or with a response (sections 4.2 and 5.2.1)
abbrev pub TakesAckOf : ℕ → Answer → Type 0
TakesAckOf id answer =
    (answer ≡ Becomes (Acked id)) ⊎ ((m : Message) × (answer ≡ Becomes (Response m)) × (m.kind ≡ Ack) × (m.id ≡ id))

-- an acknowledgement of this CON is taken while it is outstanding
pub record HearsAck (con : Open) (past : List Entry) (e : Entry) : Type 0 where
  pub is_outstanding : IsIn con (outstanding past)
  pub bytes : List ℕ
  pub call : e.call ≡ Receive con.to bytes
  pub answer : TakesAckOf con.id e.answer

-- Each acknowledgement that is taken is of a CON that is outstanding to its source.
abbrev pub AcksHeard : List Entry → Type 0
AcksHeard t =
    Always (λ past e. (from : Endpoint) (bytes : List ℕ) (id : ℕ) → e.call ≡ Receive from bytes → TakesAckOf id e.answer
    → (con : Open) × (con.to ≡ from) × (con.id ≡ id) × HearsAck con past e) t

-- this very CON arrives, is handed up and remembered
pub record Takes (near : Endpoint) (con : Open) (e : Entry) : Type 0 where
  pub call : e.call ≡ Receive near con.bytes
  pub up : hands_up near con.id e ≡ true
  pub from : con.first ≤ e.at
  pub till : e.at ≤ con.first + last_arrival

-- these bytes are given as the reply to this very CON, at the moment at which it is handed up
pub record RepliesTo (near : Endpoint) (con : Open) (bytes : List ℕ) (past : List Entry) (e : Entry) : Type 0 where
  pub call : e.call ≡ Reply near con.id bytes
  pub to_it : Since (λ y. Takes near con y × (y.at ≡ e.at)) (λ y. handed y ≡ None) past

abbrev pub OnFarThen : (List Entry → Entry → Type 0) → List Hop → Hop → Type 0
OnFarThen P past (Near e) = ⊥
OnFarThen P past (Far e) = P (far_of past) e

-- The acknowledgement is the very reply that the other layer was given to that CON, for the first time or again.
abbrev pub AcksReplied : Endpoint → Endpoint → List Hop → Type 0
AcksReplied near far all =
    Always (λ past e. (x : Entry) (con : Open) → e ≡ Near x → con.to ≡ far → (h : HearsAck con (near_of past) x)
    → Sometime (OnFarThen (RepliesTo near con h.bytes)) past) all
