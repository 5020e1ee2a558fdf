-- What a layer keeps, and the exact step of each call.
use Rattle.std.specs.Prelude.{◌≡◌, ℕ, ◌+◌, ◌-◌, ◌*◌, ◌/◌, ◌%◌, nat_le, nat_lt, max, Bool, true, Option, Some, None}
use Rattle.std.specs.Prelude.{List, [], ◌∷◌, ◌++◌, length, filter, map, drop, replicate, slice_get, slice_set}
use Rattle.std.specs.Prelude.{if◌then◌else◌, ◌&&◌, ◌||◌, ◌==◌, not, option_to_list}
use Rattle.std.specs.List.{list_any, filter_map}
use Rattle.coap_types.specs.Roles.{role_of}
use Rattle.coap_types.specs.declared.endpoint.Endpoint.{Endpoint}
use Rattle.coap_types.specs.declared.message.Kind.{Kind}
use Rattle.coap_types.specs.declared.message.Kind.TheVariants.{Con, Non}
use Rattle.coap_types.specs.SameEndpoint.{same_endpoint}
use Rattle.coap_codec.specs.Spelling.{message_bytes}
use Rattle.coap_layer.specs.BackOff.{factors}
use Rattle.coap_layer.specs.Arrivals.{Arrival, Unreadable, Faulted, Whole, arrival_at}
use Rattle.coap_layer.specs.Ids.{Issued}
use Rattle.coap_layer.specs.Trace.{Content, with_head, Packet, Call, Receive, Reply, Confirm, Plain, Settle, Ticks}
use Rattle.coap_layer.specs.Trace.{Setup}
use Rattle.coap_layer.specs.Trace.{Take, Room, AsksFree, Pass, Disposition, Dropped, Replayed, Rejected, Answer}
use Rattle.coap_layer.specs.Trace.{Becomes, Nothing, Is, Sent, Busied, NoIds, Idle, Copied, Expired, Gives, Entry}
use Rattle.coap_layer.specs.Machine.Table.{up_of}
use Rattle.coap_layer.specs.Words.{Awaited, awaits, awaits_in, clock, issued, Incoming, outstanding, waiting, Open}
use Rattle.coap_layer.specs.Words.{is_to, is_con, taken, reply_in, left_by, begun, takes_in}
use Rattle.coap_layer.specs.Rows.{IsSpelled, reset_to}
use Rattle.coap_types.specs.declared.transmission.TheConstants.{EXCHANGE_LIFETIME_MS as exchange_lifetime}
use Rattle.coap_types.specs.declared.transmission.TheConstants.{ID_REUSE_AFTER_MS as id_reuse_after}
use Rattle.coap_types.specs.declared.transmission.TheConstants.{LAST_RETRANSMISSION_MS as last_retransmission}
use Rattle.coap_types.specs.declared.transmission.TheConstants.{MAX_RETRANSMIT as max_retransmit}
use Rattle.coap_types.specs.declared.transmission.TheConstants.{FAILURE_TIMEOUTS as failure_timeouts}
use Rattle.coap_layer.specs.declared.message_id.TheConstants.{GROUP_SIZE as group_size, GROUPS as groups}
use Rattle.coap_types.specs.declared.remembered.TheConstants.{DEFAULT_REMEMBERED as usually_remembered}
use Rattle.coap_types.specs.declared.message.TheConstants.{MESSAGE_IDS as message_ids}

pub record Arrived : Type 0 where
  pub from : Endpoint
  pub id : ℕ
  pub at : ℕ
  pub con : Bool
  pub reply : Option (List ℕ)

-- the latest moment, what a reply may be given to, the Message ID that comes next, when each group of them was last
-- used, what is remembered, what is outstanding, what waits to be taken
pub record State : Type 0 where
  pub clock : ℕ
  pub awaits : Option Awaited
  pub upcoming : ℕ
  pub last_used : List (Option ℕ)
  pub arrived : List Arrived
  pub open_cons : List Open
  pub queue : List Packet
  pub most : ℕ

-- with as many remembered as where nothing else is chosen
abbrev pub usual : ℕ → Setup
usual word = record { word = word; remembered = usually_remembered }

abbrev pub start : Setup → State
start setup =
    record {
      most = setup.remembered;
      clock = 0;
      awaits = None;
      upcoming = setup.word % groups * group_size;
      last_used = replicate groups None;
      arrived = [];
      open_cons = [];
      queue = [];
    }

abbrev pub is_live : ℕ → Arrived → Bool
is_live now a = nat_le now (a.at + exchange_lifetime)

abbrev pub is_of : ℕ → Endpoint → ℕ → Arrived → Bool
is_of now from id a = is_live now a && (same_endpoint a.from from && (a.id == id))

abbrev pub is_remembered : ℕ → Endpoint → ℕ → List Arrived → Bool
is_remembered now from id es = list_any (is_of now from id) es

abbrev pub is_full : ℕ → ℕ → List Arrived → Bool
is_full most now es = nat_le most (length (filter (is_live now) es))

abbrev pub reply_of : ℕ → Endpoint → ℕ → List Arrived → Option (List ℕ)
reply_of now from id [] = None
reply_of now from id (a ∷ es) = if is_of now from id a then a.reply else reply_of now from id es

abbrev pub to_packets : Endpoint → Option (List ℕ) → List Packet
to_packets to None = []
to_packets to (Some bytes) = record { to = to; bytes = bytes } ∷ []

abbrev pub is_outstanding : Endpoint → ℕ → List Open → Bool
is_outstanding to id cs = list_any (is_to to id) cs

abbrev pub is_busy : Endpoint → List Open → Bool
is_busy to cs = list_any (λ c. same_endpoint c.to to) cs

-- the group of the next Message ID goes on, or may be entered
abbrev pub is_rested : ℕ → Option (Option ℕ) → Bool
is_rested now (Some (Some last)) = nat_lt (last + id_reuse_after) now
is_rested now _ = true

abbrev pub is_free : ℕ → ℕ → List (Option ℕ) → Bool
is_free now upcoming uses = not (upcoming % group_size == 0) || is_rested now (slice_get uses (upcoming / group_size))

-- retransmission k is due `timeout * (2^k - 1)` after the first sending; each up to the last sending counts as sent
abbrev pub is_due : ℕ → Open → ℕ → Bool
is_due now c k = nat_lt (c.last - c.first) (c.timeout * k) && nat_le (c.timeout * k) (now - c.first)

abbrev pub is_copy_due : ℕ → Open → Bool
is_copy_due now c = nat_le (now - c.first) last_retransmission && list_any (is_due now c) (factors max_retransmit)

abbrev pub is_failed : ℕ → Open → Bool
is_failed now c = nat_le (c.timeout * failure_timeouts) (now - c.first)

abbrev pub tick_of : ℕ → List Open → Answer
tick_of now [] = Idle
tick_of now (c ∷ cs) =
    if is_failed now c then Expired c.to c.id
    else (if is_copy_due now c then Copied c.to c.id
    else tick_of now cs)

abbrev pub copies : ℕ → List Open → List Packet
copies now [] = []
copies now (c ∷ cs) =
    if is_failed now c then []
    else (if is_copy_due now c then record { to = c.to; bytes = c.bytes } ∷ []
    else copies now cs)

-- what becomes of an arrival
abbrev pub sorted_by : State → ℕ → Incoming → Disposition
sorted_by s at m =
    up_of m.message.kind (role_of m.message.code) m.message (is_outstanding m.from m.message.id s.open_cons)
    (is_remembered at m.from m.message.id s.arrived)
    (is_full s.most at s.arrived) (is_free at s.upcoming s.last_used)

abbrev pub answer_to : State → ℕ → Endpoint → Arrival → Disposition
answer_to s at from Unreadable = Dropped
answer_to s at from (Faulted kind id) = if is_con kind then Rejected else Dropped
answer_to s at from (Whole m) = sorted_by s at (record { from = from; message = m })

-- what a sending is answered, and sends
abbrev pub sending : Bool → ℕ → Answer
sending free id = if free then Sent id else NoIds

abbrev pub answer_of : State → ℕ → Call → Answer
answer_of s at (Receive from bytes) = Becomes (answer_to s at from (arrival_at bytes))
answer_of s at (Reply to id bytes) = Nothing
answer_of s at (Confirm to content word) =
    if is_busy to s.open_cons then Busied else sending (is_free at s.upcoming s.last_used) s.upcoming
answer_of s at (Plain to content) = sending (is_free at s.upcoming s.last_used) s.upcoming
answer_of s at (Settle to id) = Is (is_outstanding to id s.open_cons)
answer_of s at Ticks = tick_of at s.open_cons
answer_of s at Take = Gives (slice_get s.queue 0)
answer_of s at (Room to) = Is (not (is_busy to s.open_cons) && is_free at s.upcoming s.last_used)
answer_of s at AsksFree = Is (is_free at s.upcoming s.last_used)
answer_of s at Pass = Nothing

abbrev pub replay : State → ℕ → Incoming → Disposition → List Packet
replay s at m Rejected = reset_to m.from m.message.id ∷ []
replay s at m Replayed =
    if is_con m.message.kind then to_packets m.from (reply_of at m.from m.message.id s.arrived) else []
replay s at m _ = []

abbrev pub out_to : State → ℕ → Endpoint → Arrival → List Packet
out_to s at from Unreadable = []
out_to s at from (Faulted kind id) = if is_con kind then reset_to from id ∷ [] else []
out_to s at from (Whole m) =
    replay s at (record { from = from; message = m }) (sorted_by s at (record { from = from; message = m }))

abbrev pub sent_out : Bool → Kind → ℕ → Endpoint → Content → List Packet
sent_out free kind id to content =
    if free then record { to = to; bytes = message_bytes (with_head kind id content) } ∷ [] else []

abbrev pub out_of : State → ℕ → Call → List Packet
out_of s at (Receive from bytes) = out_to s at from (arrival_at bytes)
out_of s at (Reply to id bytes) = record { to = to; bytes = bytes } ∷ []
out_of s at (Confirm to content word) =
    if is_busy to s.open_cons then [] else sent_out (is_free at s.upcoming s.last_used) Con s.upcoming to content
out_of s at (Plain to content) = sent_out (is_free at s.upcoming s.last_used) Non s.upcoming to content
out_of s at (Settle to id) = []
out_of s at Ticks = copies at s.open_cons
out_of s at Take = []
out_of s at (Room to) = []
out_of s at AsksFree = []
out_of s at Pass = []

-- what an arrival is after the entry
abbrev pub stores : Entry → Arrived → Arrived
stores e a =
    elim (reply_in a.from a.id e.call) [
      | Some bytes ↦ record a { reply = if a.con then Some bytes else None }
      | None ↦ a
    ]

abbrev pub newly : ℕ → Option Incoming → List Arrived
newly at None = []
newly at (Some m) = record { from = m.from; id = m.message.id; at = at; con = is_con m.message.kind; reply = None } ∷ []

-- what the numbers that an entry gives leave
abbrev pub next_after : List Issued → ℕ → ℕ
next_after [] n = n
next_after (g ∷ gs) n = (g.id + 1) % message_ids

abbrev pub uses_after : List Issued → List (Option ℕ) → List (Option ℕ)
uses_after [] uses = uses
uses_after (g ∷ gs) uses = slice_set (uses_after gs uses) (g.id / group_size) (Some g.at)

abbrev pub after : State → Entry → State
after s e =
    record {
      most = s.most;
      clock = e.at;
      awaits = awaits_in e.call e.answer s.awaits;
      upcoming = next_after (issued e) s.upcoming;
      last_used = uses_after (issued e) s.last_used;
      arrived = map (stores e) s.arrived ++ newly e.at (taken e);
      open_cons = filter_map (left_by e) s.open_cons ++ option_to_list (begun e);
      queue = drop (takes_in e.call) s.queue ++ e.out;
    }

-- the arrivals that are remembered, each with its stored reply
abbrev pub arrivals : List Entry → List Arrived
arrivals [] = []
arrivals (e ∷ past) = map (stores e) (arrivals past) ++ newly e.at (taken e)

abbrev pub next_id : Setup → List Entry → ℕ
next_id setup [] = setup.word % groups * group_size
next_id setup (e ∷ past) = next_after (issued e) (next_id setup past)

abbrev pub uses : List Entry → List (Option ℕ)
uses [] = replicate groups None
uses (e ∷ past) = uses_after (issued e) (uses past)

-- what a trace adds up to, nothing forgotten
abbrev pub history : Setup → List Entry → State
history setup t =
    record {
      most = setup.remembered;
      clock = clock t;
      awaits = awaits t;
      upcoming = next_id setup t;
      last_used = uses t;
      arrived = arrivals t;
      open_cons = outstanding t;
      queue = waiting t;
    }

-- only what is live is left
abbrev pub forgotten : State → State
forgotten s = record s { arrived = filter (is_live s.clock) s.arrived }

-- the moment that counts: a call that is handed none has the last
abbrev pub moment : State → ℕ → Call → ℕ
moment s now (Reply to id bytes) = s.clock
moment s now (Settle to id) = s.clock
moment s now Take = s.clock
moment s now _ = max s.clock now

-- the entry that this call adds
abbrev pub made : State → ℕ → Call → Entry
made s now call =
    let at = moment s now call in
    record { at = at; call = call; answer = answer_of s at call; out = out_of s at call }

-- the caller's condition
abbrev pub May : State → Call → Type 0
May s (Reply to id bytes) = s.awaits ≡ Some (record { from = to; id = id })
May s (Confirm to content word) = IsSpelled content
May s (Plain to content) = IsSpelled content
May s _ = Unit {0}

-- one call, as an object answers that keeps only what is live
pub record Step (old : State) (now : ℕ) (call : Call) (answer : Answer) (new : State) : Type 0 where
  pub may : May old call
  pub right : answer ≡ answer_of old (moment old now call) call
  pub new_is : new ≡ forgotten (after old (made old now call))
