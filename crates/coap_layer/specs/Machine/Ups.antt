-- What the calls' answers stand for.
use Rattle.std.specs.Prelude.{◌≡◌, Bool, true, false, Option, Some, None, [], Result, Ok, Err}
use Rattle.coap_types.specs.declared.endpoint.Endpoint.{Endpoint}
use Rattle.coap_types.specs.declared.message.Id.{Id}
use Rattle.coap_layer.specs.declared.up.SendRefusal.{SendRefusal}
use Rattle.coap_layer.specs.declared.up.SendRefusal.TheVariants as refusal
use Rattle.coap_layer.specs.declared.up.Tick.{Tick}
use Rattle.coap_layer.specs.declared.up.Tick.TheVariants as tick
use Rattle.coap_layer.specs.declared.up.Up.{Up}
use Rattle.coap_layer.specs.declared.up.Up.TheVariants as up
use Rattle.coap_layer.specs.Trace.{Disposition, Dropped, Replayed, Rejected, Request, Response, Acked, Reset, Answer}
use Rattle.coap_layer.specs.Trace.{Unmatched, Becomes, Sent, Busied, NoIds, Idle, Copied, Expired, Nothing, Entry}
use Rattle.coap_layer.specs.Words.{handed}

abbrev pub disposition_of : Up → Disposition
disposition_of up.Dropped = Dropped
disposition_of up.Replayed = Replayed
disposition_of up.Rejected = Rejected
disposition_of (up.Request m remembered) = Request m remembered
disposition_of (up.Response m) = Response m
disposition_of (up.Acked id) = Acked id.0
disposition_of (up.Reset id) = Reset id.0
disposition_of (up.Unmatched id) = Unmatched id.0

abbrev pub answer_as : Up → Answer
answer_as u = Becomes (disposition_of u)

-- to where a copy goes, a tick doesn't say
abbrev pub IsTick : Tick → Answer → Type 0
IsTick tick.Idle answer = answer ≡ Idle
IsTick (tick.Copied id) answer = (to : Endpoint) × (answer ≡ Copied to id.0)
IsTick (tick.Expired to id) answer = answer ≡ Expired to id.0

-- a sending that was refused memory is no call
abbrev pub sent_as : Result Id SendRefusal → Answer
sent_as (Ok id) = Sent id.0
sent_as (Err refusal.Outstanding) = Busied
sent_as (Err refusal.NoIds) = NoIds
sent_as (Err refusal.Memory) = Nothing

-- nothing is sent, and nothing handed up that may be replied to
abbrev pub IsQuiet : Entry → Type 0
IsQuiet e = (handed e ≡ None) × (e.out ≡ [])

-- why a message is not sent: a CON to there is outstanding; no Message ID is free
abbrev pub refusal_of : (busy free : Bool) → Option SendRefusal
refusal_of true free = Some refusal.Outstanding
refusal_of false true = None
refusal_of false false = Some refusal.NoIds
