-- What becomes of a CON that arrives where another message can be remembered (RFC 7252, sections 4.2 and 4.5).
use Rattle.std.specs.Prelude.{◌≡◌, ◌⊎◌, ◌≤◌, ◌<◌, ℕ, ◌+◌, ◌-◌, ◌*◌, nat_le, Bool, true, ◌&&◌, None, Some, List, [], ◌∷◌}
use Rattle.std.specs.Prelude.{◌++◌}
use Rattle.std.specs.Prelude.{if◌then◌else◌}
use Rattle.coap_types.specs.Past.{Ever, Sometime, Always}
use Rattle.coap_types.specs.Roles.{role_of}
use Rattle.coap_types.specs.declared.endpoint.Endpoint.{Endpoint}
use Rattle.coap_types.specs.declared.message.Kind.TheVariants.{Non, Ack, Rst}
use Rattle.coap_types.specs.declared.role.Role.TheVariants as role
use Rattle.coap_types.specs.declared.transmission.TheConstants.{EXCHANGE_LIFETIME_MS as exchange_lifetime}
use Rattle.coap_types.specs.declared.transmission.TheConstants.{LAST_ARRIVAL_MS as last_arrival}
use Rattle.coap_types.specs.declared.transmission.TheConstants.{MAX_LATENCY_MS as max_latency}
use Rattle.coap_codec.specs.Message.{Message, Spells}
use Rattle.coap_codec.specs.Spelling.{message_bytes}
use Rattle.coap_layer.specs.Channel.{Hop, Near, Far, near_of, far_of, OnNear, OnFar, OnFarThen, Takes, RepliesTo}
use Rattle.coap_layer.specs.Clocks.{max_gain}
use Rattle.coap_layer.specs.Ids.{Issued, Withholds}
use Rattle.coap_layer.specs.Rows.{Outstanding}
use Rattle.coap_layer.specs.Sends.{IsIn, IsOpen}
use Rattle.coap_layer.specs.Trace.{Content, with_head, Receive, Plain, Response, Acked, Reset, Becomes, Sent}
use Rattle.coap_layer.specs.Trace.{Entry}
use Rattle.coap_layer.specs.Words.{clock, handed, remembered, Open, begun, outstanding, numbers, ends_in}
use Rattle.coap_types.specs.declared.transmission.TheConstants.{ID_REUSE_AFTER_MS as id_reuse_after}
use Rattle.coap_layer.specs.declared.message_id.TheConstants.{GROUP_SIZE as group_size, GROUPS as groups}

-- the bytes carry a request or a response
pub record IsTold (bytes : List ℕ) : Type 0 where
  pub message : Message
  pub spells : Spells bytes message
  pub class : (role_of message.code ≡ role.Request) ⊎ (role_of message.code ≡ role.Response)

-- this very CON arrives, while it can, and fewer are remembered than there is a place for
pub record ArrivesInRoom (places : ℕ) (near : Endpoint) (con : Open) (past : List Entry) (e : Entry) : Type 0 where
  pub call : e.call ≡ Receive near con.bytes
  pub from : con.first ≤ e.at
  pub till : e.at ≤ con.first + last_arrival
  pub room : remembered e.at past < places

-- Then it is taken, or was taken before.
abbrev pub ConsTaken : ℕ → Endpoint → List Hop → Type 0
ConsTaken places near all =
    (con : Open) → Ever (λ b. begun b ≡ Some con) (near_of all) → IsTold con.bytes
    → Always (λ past h. OnFarThen (ArrivesInRoom places near con) past h
    → OnFar (Takes near con) h ⊎ Ever (OnFar (Takes near con)) past) all

-- from this moment on, for EXCHANGE_LIFETIME
abbrev pub is_then : ℕ → ℕ → Bool
is_then since at = nat_le since at && nat_le at (since + exchange_lifetime)

-- how many messages are handed up then
abbrev pub came : ℕ → List Entry → ℕ
came since [] = 0
came since (e ∷ past) =
    elim (handed e) [
      | Some m ↦ (if is_then since e.at then 1 + came since past else came since past)
      | None ↦ came since past
    ]

-- fewer than so many, whenever that is
abbrev pub FewCome : ℕ → List Entry → Type 0
FewCome most t = (since : ℕ) → came since t < most

-- Then another can be remembered.
abbrev pub HasRoom : ℕ → List Entry → Type 0
HasRoom places t = (now : ℕ) → clock t ≤ now → remembered now t < places

-- these bytes arrive, at most so long after this moment
pub record ArrivesWithin (most : ℕ) (near : Endpoint) (bytes : List ℕ) (since : ℕ) (e : Entry) : Type 0 where
  pub call : e.call ≡ Receive near bytes
  pub from : since ≤ e.at
  pub till : e.at ≤ since + most

-- what the near layer sent more than so long before this moment arrived so
abbrev pub ArriveWithin : ℕ → (near far : Endpoint) → ℕ → List Hop → Type 0
ArriveWithin most near far now all =
    (x : Entry) (bytes : List ℕ) → Ever (OnNear (λ y. y ≡ x)) all → IsIn (record { to = far; bytes = bytes }) x.out
    → x.at + most < now
    → Ever (OnFar (ArrivesWithin most near bytes x.at)) all

-- this very CON is taken, at most so long after its first sending
pub record TakesWithin (most : ℕ) (near : Endpoint) (con : Open) (e : Entry) : Type 0 where
  pub takes : Takes near con e
  pub soon : e.at ≤ con.first + most

-- Where no datagram takes longer than that, and fewer messages come than there are places, each CON is taken so.
abbrev pub ConsTakenWithin : ℕ → (near far : Endpoint) → List Hop → Type 0
ConsTakenWithin places near far all =
    (most now : ℕ) (con : Open) → most ≤ last_arrival → ArriveWithin most near far now all → FewCome places (far_of all)
    → Ever (λ b. begun b ≡ Some con) (near_of all)
    → con.to ≡ far → IsTold con.bytes → con.first + most < now → Ever (OnFar (TakesWithin most near con)) all

-- NONs (section 4.3)

-- a NON, as it was sent
pub record SentNon : Type 0 where
  pub to : Endpoint
  pub id : ℕ
  pub bytes : List ℕ
  pub at : ℕ

-- the entry sends it
pub record SendsNon (non : SentNon) (e : Entry) : Type 0 where
  pub content : Content
  pub call : e.call ≡ Plain non.to content
  pub answer : e.answer ≡ Sent non.id
  pub at_is : e.at ≡ non.at
  pub bytes_are : non.bytes ≡ message_bytes (with_head Non non.id content)

-- this very NON is handed up, while it can arrive
pub record HandsUpNon (near : Endpoint) (non : SentNon) (e : Entry) : Type 0 where
  pub message : Message
  pub spells : Spells non.bytes message
  pub up : handed e ≡ Some (record { from = near; message = message })
  pub from : non.at ≤ e.at
  pub till : e.at ≤ non.at + max_latency

-- this very NON arrives, while it can, and fewer are remembered than there is a place for
pub record NonInRoom (places : ℕ) (near : Endpoint) (non : SentNon) (past : List Entry) (e : Entry) : Type 0 where
  pub call : e.call ≡ Receive near non.bytes
  pub from : non.at ≤ e.at
  pub till : e.at ≤ non.at + max_latency
  pub room : remembered e.at past < places

-- Then it is handed up, or was before.
abbrev pub NonsTaken : ℕ → Endpoint → List Hop → Type 0
NonsTaken places near all =
    (non : SentNon) → Ever (SendsNon non) (near_of all) → IsTold non.bytes
    → Always (λ past h. OnFarThen (NonInRoom places near non) past h
    → OnFar (HandsUpNon near non) h ⊎ Ever (OnFar (HandsUpNon near non)) past) all

-- this very NON is handed up, at most so long after it was sent
pub record HandsUpWithin (most : ℕ) (near : Endpoint) (non : SentNon) (e : Entry) : Type 0 where
  pub up : HandsUpNon near non e
  pub soon : e.at ≤ non.at + most

-- Where no datagram takes longer than that, and fewer messages come than there are places, each NON is handed up so.
abbrev pub NonsTakenWithin : ℕ → (near far : Endpoint) → List Hop → Type 0
NonsTakenWithin places near far all =
    (most now : ℕ) (non : SentNon) → most ≤ max_latency → ArriveWithin most near far now all
    → FewCome places (far_of all) → Ever (SendsNon non) (near_of all)
    → non.to ≡ far → IsTold non.bytes → non.at + most < now → Ever (OnFar (HandsUpWithin most near non)) all

-- An acknowledgement that arrives while its CON is outstanding is taken: an Empty one, and one with a response
-- (sections 4.2 and 5.2.1).
pub record TakesAcks (past : List Entry) (e : Entry) : Type 0 where
  pub empty : (from : Endpoint) (bytes : List ℕ) (m : Message) → e.call ≡ Receive from bytes → Spells bytes m
      → m.kind ≡ Ack → role_of m.code ≡ role.Empty → Outstanding past from m.id → e.answer ≡ Becomes (Acked m.id)
  pub carrying : (from : Endpoint) (bytes : List ℕ) (m : Message) → e.call ≡ Receive from bytes → Spells bytes m
      → m.kind ≡ Ack → role_of m.code ≡ role.Response → Outstanding past from m.id → e.answer ≡ Becomes (Response m)

abbrev pub AllTakeAcks : List Entry → Type 0
AllTakeAcks t = Always TakesAcks t

-- a Reset of this CON is taken while it is outstanding, and max_gain before its Message ID may be given again at the
-- latest
pub record HearsReset (con : Open) (past : List Entry) (e : Entry) : Type 0 where
  pub is_outstanding : IsIn con (outstanding past)
  pub bytes : List ℕ
  pub call : e.call ≡ Receive con.to bytes
  pub answer : e.answer ≡ Becomes (Reset con.id)
  pub young : e.at + max_gain ≤ con.first + id_reuse_after

-- Where the CON carries a request or a response, the Reset is the very reply that the other layer was given to it.
abbrev pub ResetsMeant : Endpoint → Endpoint → List Hop → Type 0
ResetsMeant near far all =
    Always (λ past e. (x : Entry) (con : Open) → e ≡ Near x → con.to ≡ far → IsTold con.bytes
    → (h : HearsReset con (near_of past) x) → Sometime (OnFarThen (RepliesTo near con h.bytes)) past) all

-- A CON is replied to once at most.
abbrev pub RepliedOnce : Endpoint → List Hop → Type 0
RepliedOnce near all =
    (con : Open) → Ever (λ b. begun b ≡ Some con) (near_of all) → (bytes other : List ℕ)
    → Always (λ past h. OnFarThen (RepliesTo near con bytes) past h
    → Sometime (OnFarThen (RepliesTo near con other)) past → ⊥) all

-- how many numbers were issued from this moment on
abbrev pub issued_since : ℕ → List Issued → ℕ
issued_since u [] = 0
issued_since u (g ∷ past) = if nat_le u g.at then 1 + issued_since u past else issued_since u past

-- since this moment, ID_REUSE_AFTER_MS ago at most, all numbers but those of one group were issued
pub record ManySince (t : List Issued) (now : ℕ) : Type 0 where
  pub since : ℕ
  pub young : now ≤ since + id_reuse_after
  pub many : (groups - 1) * group_size ≤ issued_since since t

-- Where no number may be given, so many were issued lately.
abbrev pub HeldIsMany : ℕ → List Issued → Type 0
HeldIsMany word t = (now : ℕ) → Withholds word t now → ManySince t now

-- how many messages were handed up from this moment on
abbrev pub came_since : ℕ → List Entry → ℕ
came_since u [] = 0
came_since u (e ∷ past) =
    elim (handed e) [
      | Some m ↦ (if nat_le u e.at then 1 + came_since u past else came_since u past)
      | None ↦ came_since u past
    ]

-- each CON that was begun is outstanding, or was taken
abbrev pub OverAreTaken : Endpoint → List Hop → Type 0
OverAreTaken near all = (con : Open) → Ever (λ b. begun b ≡ Some con) (near_of all)
    → IsOpen (near_of all) con ⊎ Ever (OnFar (Takes near con)) all

-- what has a Message ID is a CON, for this place
abbrev pub AreConsFor : Endpoint → List Entry → Type 0
AreConsFor far t = Always (λ past e. (id : ℕ) → e.answer ≡ Sent id → (con : Open) × (begun e ≡ Some con)
    × (con.to ≡ far)) t

-- Where each CON that is over was taken, and fewer messages come than a group has Message IDs, one is free. That number
-- stands whatever the number that can be remembered: with more, Message IDs could run out first.
abbrev pub IdsAreFree : ℕ → (near far : Endpoint) → List Hop → Type 0
IdsAreFree one near far all =
    (now : ℕ) → AreConsFor far (near_of all) → Always (λ past h. OverAreTaken near past) all
    → FewCome group_size (far_of all)
    → clock (far_of all) ≤ now
    → Withholds one (numbers (near_of all)) now → ⊥

-- its retransmission was ended, behind its first sending
abbrev pub EndedAfter : Open → List Entry → Type 0
EndedAfter con [] = ⊥
EndedAfter con (e ∷ past) =
    ((ends_in e.call e.answer con.to con.id ≡ true) × Ever (λ b. begun b ≡ Some con) past) ⊎ EndedAfter con past

-- Then it is not outstanding any more.
abbrev pub AreOver : List Entry → Type 0
AreOver t = (con : Open) → EndedAfter con t → IsOpen t con → ⊥

-- the bytes end the retransmission of this CON: an Empty acknowledgement or a Reset, with its Message ID
pub record EndsIt (con : Open) (bytes : List ℕ) : Type 0 where
  pub message : Message
  pub spells : Spells bytes message
  pub id : message.id ≡ con.id
  pub empty : role_of message.code ≡ role.Empty
  pub kind : (message.kind ≡ Ack) ⊎ (message.kind ≡ Rst)

-- such a reply to it, so long after its first sending at most
pub record EndsWithin (most : ℕ) (near : Endpoint) (con : Open) (past : List Entry) (e : Entry) : Type 0 where
  pub bytes : List ℕ
  pub replies : RepliesTo near con bytes past e
  pub ends : EndsIt con bytes
  pub soon : e.at ≤ con.first + most

-- what the far layer sent to the near one more than so long before this moment, arrived there behind that
abbrev pub ComeBackWithin : ℕ → (near far : Endpoint) → ℕ → List Hop → Type 0
ComeBackWithin most near far now all =
    (later past : List Hop) (x : Entry) (bytes : List ℕ) → all ≡ later ++ Far x ∷ past
    → IsIn (record { to = near; bytes = bytes }) x.out → x.at + most < now
    → Ever (OnNear (ArrivesWithin most far bytes x.at)) later

-- Where a CON is replied to so, and the reply comes, it is not outstanding after both.
abbrev pub OverWithin : (near far : Endpoint) → List Hop → Type 0
OverWithin near far all =
    (most now : ℕ) (con : Open) → ComeBackWithin most near far now all
    → Ever (λ b. begun b ≡ Some con) (near_of all) → con.to ≡ far → Sometime (OnFarThen (EndsWithin most near con)) all
    → con.first + most + most < now → IsOpen (near_of all) con → ⊥
