-- What a trace of the layer's calls says: what is remembered, what is outstanding, what waits to be taken.
use Rattle.std.specs.Prelude.{◌≡◌, ◌≤◌, ℕ, ◌+◌, ◌%◌, Bool, true, false, nat_le, Option, Some, None, List, [], ◌∷◌, ◌++◌}
use Rattle.std.specs.Prelude.{◌&&◌, ◌==◌, drop, if◌then◌else◌, option_to_list}
use Rattle.std.specs.List.{filter_map}
use Rattle.coap_types.specs.Past.{Ever, all_of}
use Rattle.coap_types.specs.declared.endpoint.Endpoint.{Endpoint}
use Rattle.coap_types.specs.declared.message.Kind.{Kind}
use Rattle.coap_types.specs.declared.message.Kind.TheVariants.{Con, Non}
use Rattle.coap_types.specs.SameEndpoint.{same_endpoint}
use Rattle.coap_codec.specs.Message.{Message}
use Rattle.coap_codec.specs.Spelling.{message_bytes}
use Rattle.coap_layer.specs.Ids.{Issued}
use Rattle.coap_layer.specs.Trace.{Content, with_head, Packet, Call, Receive, Reply, Confirm, Settle, Ticks, Take, Room}
use Rattle.coap_layer.specs.Trace.{AsksFree, Pass, Request, Response, Acked, Reset, Answer, Becomes, Sent, Copied}
use Rattle.coap_layer.specs.Trace.{Expired, Entry}
use Rattle.coap_types.specs.declared.transmission.TheConstants.{EXCHANGE_LIFETIME_MS as exchange_lifetime}
use Rattle.coap_types.specs.declared.transmission.TheConstants.{ACK_TIMEOUT_MS as ack_timeout}
use Rattle.coap_types.specs.declared.transmission.TheConstants.{TIMEOUT_VALUES as timeout_values}

-- the moment of the newest entry
abbrev pub clock : List Entry → ℕ
clock [] = 0
clock (e ∷ past) = e.at

-- what is remembered (section 4.5)

pub record Incoming : Type 0 where
  pub from : Endpoint
  pub message : Message

abbrev pub is_con : Kind → Bool
is_con Con = true
is_con _ = false

-- CONs and NONs are remembered, ACKs and RSTs are not
abbrev pub is_kept : Kind → Bool
is_kept Con = true
is_kept Non = true
is_kept _ = false

-- the CON or NON that the answer hands up, and that which is to be remembered
abbrev pub handed_by : Answer → Option Message
handed_by (Becomes (Request m kept)) = Some m
handed_by (Becomes (Response m)) = if is_kept m.kind then Some m else None
handed_by _ = None

abbrev pub kept_by : Answer → Option Message
kept_by (Becomes (Request m kept)) = if kept then Some m else None
kept_by (Becomes (Response m)) = if is_kept m.kind then Some m else None
kept_by _ = None

abbrev pub from_there : Endpoint → Option Message → Option Incoming
from_there from (Some m) = Some (record { from = from; message = m })
from_there from None = None

abbrev pub handed_in : Call → Answer → Option Incoming
handed_in (Receive from bytes) answer = from_there from (handed_by answer)
handed_in _ answer = None

abbrev pub taken_in : Call → Answer → Option Incoming
taken_in (Receive from bytes) answer = from_there from (kept_by answer)
taken_in _ answer = None

-- the message that the entry hands up, and that which is remembered from then on
abbrev pub handed : Entry → Option Incoming
handed e = handed_in e.call e.answer

abbrev pub taken : Entry → Option Incoming
taken e = taken_in e.call e.answer

abbrev pub is_from : Endpoint → ℕ → Incoming → Bool
is_from from id m = same_endpoint m.from from && (m.message.id == id)

-- a message from there with this id is handed up, and remembered
abbrev pub hands_up : Endpoint → ℕ → Entry → Bool
hands_up from id e = elim (taken e) [ Some m ↦ is_from from id m | None ↦ false ]

-- .. at most EXCHANGE_LIFETIME before (section 4.8.2; for a NON: profile)
pub record HandsUpSince (now : ℕ) (from : Endpoint) (id : ℕ) (e : Entry) : Type 0 where
  pub up : hands_up from id e ≡ true
  pub young : now ≤ e.at + exchange_lifetime

abbrev pub Remembered : List Entry → ℕ → Endpoint → ℕ → Type 0
Remembered past now from id = Ever (HandsUpSince now from id) past

-- how many are remembered
abbrev pub remembered : ℕ → List Entry → ℕ
remembered now [] = 0
remembered now (e ∷ past) =
    elim (taken e) [
      | Some m ↦ (if nat_le now (e.at + exchange_lifetime) then 1 + remembered now past else remembered now past)
      | None ↦ remembered now past
    ]

-- the message that was remembered last, from there with this id, was a CON
abbrev pub was_con : Endpoint → ℕ → List Entry → Bool
was_con from id [] = false
was_con from id (e ∷ past) =
    elim (taken e) [
      | Some m ↦ (if is_from from id m then is_con m.message.kind else was_con from id past)
      | None ↦ was_con from id past
    ]

-- the bytes that the call gives as the reply to that message
abbrev pub reply_in : Endpoint → ℕ → Call → Option (List ℕ)
reply_in from id (Reply to n bytes) = if same_endpoint to from && (n == id) then Some bytes else None
reply_in from id _ = None

-- the reply that was given last since it was handed up
abbrev pub replied : Endpoint → ℕ → List Entry → Option (List ℕ)
replied from id [] = None
replied from id (e ∷ past) =
    if hands_up from id e then None
    else elim (reply_in from id e.call) [ Some bytes ↦ Some bytes | None ↦ replied from id past ]

-- what a reply may be given to: the message that was handed up, while nothing else arrives, is sent or is due
pub record Awaited : Type 0 where
  pub from : Endpoint
  pub id : ℕ

abbrev pub awaited_of : Option Incoming → Option Awaited
awaited_of None = None
awaited_of (Some m) = Some (record { from = m.from; id = m.message.id })

abbrev pub awaits_in : Call → Answer → Option Awaited → Option Awaited
awaits_in (Receive from bytes) answer old = awaited_of (from_there from (handed_by answer))
awaits_in (Settle to id) answer old = old
awaits_in Take answer old = old
awaits_in (Room to) answer old = old
awaits_in AsksFree answer old = old
awaits_in Pass answer old = old
awaits_in _ answer old = None

abbrev pub awaits : List Entry → Option Awaited
awaits [] = None
awaits (e ∷ past) = awaits_in e.call e.answer (awaits past)

-- the Message IDs that were issued (section 4.4)

abbrev pub issued_by : ℕ → Answer → List Issued
issued_by at (Sent id) = record { at = at; id = id } ∷ []
issued_by at _ = []

abbrev pub issued : Entry → List Issued
issued e = issued_by e.at e.answer

abbrev pub numbers : List Entry → List Issued
numbers = all_of issued

-- the CONs that are outstanding (section 4.2)

pub record Open : Type 0 where
  pub to : Endpoint
  pub id : ℕ
  pub bytes : List ℕ
  pub timeout : ℕ
  pub first : ℕ
  pub last : ℕ

abbrev pub sent_by : Answer → Option ℕ
sent_by (Sent id) = Some id
sent_by _ = None

-- the CON of which the entry is the first sending; its initial timeout lies between ACK_TIMEOUT and MAX_ACK_TIMEOUT_MS
abbrev pub open_of : ℕ → Endpoint → Content → ℕ → Option ℕ → Option Open
open_of at to content word None = None
open_of at to content word (Some id) =
    Some (record {
      to = to;
      id = id;
      bytes = message_bytes (with_head Con id content);
      timeout = ack_timeout + word % timeout_values;
      first = at;
      last = at;
    })

abbrev pub begun_in : ℕ → Call → Answer → Option Open
begun_in at (Confirm to content word) answer = open_of at to content word (sent_by answer)
begun_in at _ _ = None

abbrev pub begun : Entry → Option Open
begun e = begun_in e.at e.call e.answer

abbrev pub is_to : Endpoint → ℕ → Open → Bool
is_to to id c = same_endpoint c.to to && (c.id == id)

abbrev pub same : Endpoint → ℕ → Endpoint → ℕ → Bool
same to id place n = same_endpoint place to && (n == id)

-- the call ends the retransmission of the CON to this place with this id
abbrev pub ends_in : Call → Answer → Endpoint → ℕ → Bool
ends_in (Receive from bytes) (Becomes (Acked id)) place n = same from id place n
ends_in (Receive from bytes) (Becomes (Reset id)) place n = same from id place n
ends_in (Settle to id) _ place n = same to id place n
ends_in Ticks (Expired to id) place n = same to id place n
ends_in _ _ place n = false

-- the call sends it again
abbrev pub copies_in : Call → Answer → Endpoint → ℕ → Bool
copies_in Ticks (Copied to id) place n = same to id place n
copies_in _ _ place n = false

-- what the entry leaves of it
abbrev pub left_by : Entry → Open → Option Open
left_by e c =
    if ends_in e.call e.answer c.to c.id then None
    else (if copies_in e.call e.answer c.to c.id then Some (record c { last = e.at }) else Some c)

-- the CONs that were begun and have not ended, in the order of their first sending
abbrev pub outstanding : List Entry → List Open
outstanding [] = []
outstanding (e ∷ past) = filter_map (left_by e) (outstanding past) ++ option_to_list (begun e)

-- what was sent and not yet taken, in the order of sending

abbrev pub takes_in : Call → ℕ
takes_in Take = 1
takes_in _ = 0

abbrev pub waiting : List Entry → List Packet
waiting [] = []
waiting (e ∷ past) = drop (takes_in e.call) (waiting past) ++ e.out
