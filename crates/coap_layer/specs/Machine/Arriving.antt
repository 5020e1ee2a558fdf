-- What a verdict on an arrival does (RFC 7252, sections 4.2, 4.3 and 4.5).
use Rattle.std.specs.Prelude.{◌≡◌, ℕ, Bool, true, false, Option, Some, None, List, [], ◌∷◌, Result, Ok, Err}
use Rattle.std.specs.Prelude.{if◌then◌else◌, ◌&&◌}
use Rattle.std.specs.List.{filter_map}
use Rattle.coap_types.specs.declared.endpoint.Endpoint.{Endpoint}
use Rattle.coap_types.specs.declared.message.Id.{Id}
use Rattle.coap_types.specs.declared.message.Kind.{Kind}
use Rattle.coap_types.specs.declared.message.Kind.TheVariants.{Con, Non, Ack, Rst}
use Rattle.coap_codec.specs.Message.{Message}
use Rattle.coap_codec.specs.declared.fault.Fault.{Fault}
use Rattle.coap_layer.specs.declared.arrival.Verdict.{Verdict}
use Rattle.coap_layer.specs.declared.arrival.Verdict.TheVariants as verdict
use Rattle.coap_layer.specs.declared.arriving.Arriving.{Arriving}
use Rattle.coap_layer.specs.Arrivals.{Arrival, Whole, by_head}
use Rattle.coap_layer.specs.Rows.{reset_to}
use Rattle.coap_layer.specs.Machine.State.{State, Arrived, answer_to, out_to, is_remembered, newly, reply_of}
use Rattle.coap_layer.specs.Machine.State.{to_packets}
use Rattle.coap_layer.specs.Trace.{Disposition, Becomes, Dropped, Rejected, Receive, Packet}
use Rattle.coap_layer.specs.Machine.Verdicts.{answer_by}
use Rattle.coap_layer.specs.Words.{Awaited, Open, awaits_in, ends_in, is_con, is_kept, same, taken_in}

-- what was read of a datagram
abbrev pub shown_by : Result Message Fault → Arrival
shown_by (Ok m) = Whole m
shown_by (Err f) = by_head f.head

-- what becomes of it
abbrev pub told_by : Verdict → Result Message Fault → Disposition
told_by v (Ok m) = answer_by v m
told_by verdict.Reject (Err f) = Rejected
told_by _ (Err f) = Dropped

-- a datagram that spells no message: a Confirmable one is rejected, where its type and Message ID can be read
abbrev pub of_head : Option (Kind × Id) → Arriving
of_head None = record { kind = Non; id = record { 0 = 0 }; verdict = verdict.Drop }
of_head (Some (Con, id)) = record { kind = Con; id = id; verdict = verdict.Reject }
of_head (Some (Non, id)) = record { kind = Non; id = id; verdict = verdict.Drop }
of_head (Some (Ack, id)) = record { kind = Ack; id = id; verdict = verdict.Drop }
of_head (Some (Rst, id)) = record { kind = Rst; id = id; verdict = verdict.Drop }

-- what is sent at once
abbrev pub sends : Verdict → Kind → ℕ → ℕ → Endpoint → List Arrived → List Packet
sends verdict.Reject kind id at from es = reset_to from id ∷ []
sends verdict.Replay kind id at from es = if is_con kind then to_packets from (reply_of at from id es) else []
sends _ kind id at from es = []

-- whether a retransmission ends
abbrev pub ends : Verdict → Bool
ends verdict.TakeAck = true
ends verdict.TakeReset = true
ends _ = false

-- whether a CON or NON is handed up, and whether it is remembered
abbrev pub hands : Verdict → Kind → Bool
hands (verdict.HandUpRequest kept) kind = true
hands verdict.HandUpResponse kind = is_kept kind
hands _ kind = false

abbrev pub keeps : Verdict → Kind → Bool
keeps (verdict.HandUpRequest kept) kind = kept
keeps verdict.HandUpResponse kind = is_kept kind
keeps _ kind = false

abbrev pub sent_by : ℕ → Endpoint → List Arrived → Arriving → List Packet
sent_by at from es a = sends a.verdict a.kind a.id.0 at from es

abbrev pub newly_by : ℕ → Endpoint → Arriving → List Arrived
newly_by at from a =
    if keeps a.verdict a.kind then record { from = from; id = a.id.0; at = at; con = is_con a.kind; reply = None } ∷ []
    else []

abbrev pub awaits_by : Endpoint → Arriving → Option Awaited
awaits_by from a = if hands a.verdict a.kind then Some (record { from = from; id = a.id.0 }) else None

-- what is left of the outstanding CONs, without that to this place with this id
abbrev pub without_open : Endpoint → ℕ → List Open → List Open
without_open to id cs = filter_map (λ c. if same to id c.to c.id then None else Some c) cs

abbrev pub open_by : Endpoint → Arriving → List Open → List Open
open_by from a cs = if ends a.verdict then without_open from a.id.0 cs else cs

-- what the layer does at an arrival is what the table of arrivals says
pub record IsArriving (s : State) (at : ℕ) (from : Endpoint) (what : Arrival) (a : Arriving) : Type 0 where
  pub out : out_to s at from what ≡ sent_by at from s.arrived a
  pub taken : (bytes : List ℕ) → newly at (taken_in (Receive from bytes) (Becomes (answer_to s at from what)))
      ≡ newly_by at from a
  pub awaits : (bytes : List ℕ) (old : Option Awaited)
      → awaits_in (Receive from bytes) (Becomes (answer_to s at from what)) old ≡ awaits_by from a
  pub ended : (bytes : List ℕ) (to : Endpoint) (id : ℕ)
      → ends_in (Receive from bytes) (Becomes (answer_to s at from what)) to id
      ≡ (ends a.verdict && same from a.id.0 to id)
  pub new : hands a.verdict a.kind ≡ true → is_remembered at from a.id.0 s.arrived ≡ false
