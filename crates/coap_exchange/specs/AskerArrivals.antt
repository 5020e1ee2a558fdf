-- What a client makes of what the message layer hands up, and of time (RFC 7252, sections 4.2, 5.2 and 5.3.2).
use Rattle.std.specs.Prelude.{ℕ, ◌-◌, nat_le, Bool, true, false, Option, Some, None, List, [], ◌∷◌, ◌++◌, ◌&&◌, ◌==◌}
use Rattle.std.specs.Prelude.{if◌then◌else◌}
use Rattle.std.specs.Option.{option_map}
use Rattle.coap_types.specs.Recognised.{lacks_critical, carries}
use Rattle.coap_types.specs.declared.direction.Direction.TheVariants.{Response}
use Rattle.coap_types.specs.declared.endpoint.Endpoint.{Endpoint}
use Rattle.coap_types.specs.declared.endpoint.Moment.{Moment}
use Rattle.coap_types.specs.declared.option_number.TheConstants.{OBSERVE as option_observe}
use Rattle.coap_types.specs.declared.transmission.TheConstants.{EXCHANGE_LIFETIME_MS as exchange_lifetime}
use Rattle.coap_types.specs.SameEndpoint.{same_endpoint}
use Rattle.coap_codec.specs.Message.{Message}
use Rattle.coap_layer.specs.Trace as L
use Rattle.coap_layer.specs.Machine.Steps.{Asked}
use Rattle.coap_exchange.specs.declared.asker.Event.{Event}
use Rattle.coap_exchange.specs.declared.asker.Event.TheVariants as event
use Rattle.coap_exchange.specs.declared.asker.Turn.{Turn}
use Rattle.coap_exchange.specs.declared.asker.Turn.TheVariants as turn
use Rattle.coap_exchange.specs.declared.matching.Known.{Known}
use Rattle.coap_exchange.specs.declared.matching.Verdict.{Verdict}
use Rattle.coap_exchange.specs.declared.matching.Verdict.TheVariants.{Ignore, Reject, Acknowledge, AnswerCon, Answer}
use Rattle.coap_exchange.specs.declared.matching.Verdict.TheVariants.{NoticeCon, Notice, Await, EndByReset}
use Rattle.coap_exchange.specs.declared.asker.Exchange.{Exchange}
use Rattle.coap_exchange.specs.AskerTrace.{Own}
use Rattle.coap_exchange.specs.EmptyMessages.{ack_bytes, reset_bytes}
use Rattle.coap_exchange.specs.Matching.{judged, request_judged}
use Rattle.coap_exchange.specs.Tokens.{same_token, is_kept}
use Rattle.coap_exchange.specs.AskerRequests.{asked}

abbrev pub has_token : Option Exchange → List ℕ → Bool
has_token None token = false
has_token (Some x) token = same_token token x.token

abbrev pub has_id : Option Exchange → ℕ → Bool
has_id None id = false
has_id (Some x) id = id == x.id.0

abbrev pub is_cancel : Option Exchange → Bool
is_cancel None = false
is_cancel (Some x) = x.cancel

-- the number of the option Observe (RFC 7641, section 2)
abbrev pub observe : ℕ
observe = option_observe

abbrev pub known_of : Own → Endpoint → Message → Known
known_of s from m =
    record {
      from_server = same_endpoint from s.server;
      of_exchange = has_token s.running m.token;
      same_id = has_id s.running m.id;
      kept = is_kept m.token s.kept;
      bad_option = lacks_critical Response m.options;
      cancelled = has_token s.running m.token && (is_cancel s.running && carries Response observe m.options);
    }

-- it goes to the request of the exchange that runs
abbrev pub is_of_request : Own → Endpoint → ℕ → Bool
is_of_request s from id = same_endpoint from s.server && has_id s.running id

abbrev pub verdict_on : Own → Endpoint → L.Answer → Verdict
verdict_on s from (L.Becomes (L.Response m)) = judged m.kind (known_of s from m)
verdict_on s from (L.Becomes (L.Request m remembered)) = request_judged m.kind
verdict_on s from (L.Becomes (L.Acked id)) = if is_of_request s from id then Await else Ignore
verdict_on s from (L.Becomes (L.Reset id)) = if is_of_request s from id then EndByReset else Ignore
verdict_on s from _ = Ignore

abbrev pub id_in : L.Answer → ℕ
id_in (L.Becomes (L.Request m remembered)) = m.id
id_in (L.Becomes (L.Response m)) = m.id
id_in _ = 0

-- the Empty message that answers the arrival
abbrev pub reply_by : Verdict → ℕ → Option (List ℕ)
reply_by Reject id = Some (reset_bytes id)
reply_by Acknowledge id = Some (ack_bytes id)
reply_by AnswerCon id = Some (ack_bytes id)
reply_by NoticeCon id = Some (ack_bytes id)
reply_by _ id = None

-- whether a response implies the acknowledgement of the request (section 5.2.2)
abbrev pub settles : Verdict → Bool
settles AnswerCon = true
settles Answer = true
settles _ = false

abbrev pub replying : Endpoint → ℕ → Option (List ℕ) → List Asked
replying from id None = []
replying from id (Some bytes) = asked 0 (L.Reply from id bytes) L.Nothing ∷ []

abbrev pub settling : Bool → Endpoint → Option Exchange → (settled : Bool) → List Asked
settling true server (Some x) settled = asked 0 (L.Settle server x.id.0) (L.Is settled) ∷ []
settling true server None settled = []
settling false server running settled = []

-- what is asked of the layer, the newest first
abbrev pub acts : Own → Endpoint → L.Answer → Bool → Verdict → List Asked
acts s from up settled v =
    settling (settles v) s.server s.running settled ++ replying from (id_in up) (reply_by v (id_in up))

abbrev pub told : Verdict → L.Answer → Option Event
told AnswerCon (L.Becomes (L.Response m)) = Some (event.Answer m)
told Answer (L.Becomes (L.Response m)) = Some (event.Answer m)
told NoticeCon (L.Becomes (L.Response m)) = Some (event.Notice m)
told Notice (L.Becomes (L.Response m)) = Some (event.Notice m)
told EndByReset up = Some event.Reset
told _ up = None

abbrev pub running_after : ℕ → Verdict → Option Exchange → Option Exchange
running_after at AnswerCon running = None
running_after at Answer running = None
running_after at EndByReset running = None
running_after at Await running = option_map (λ (x : Exchange). record x { acked = Some (record { 0 = at }) }) running
running_after at _ running = running

-- time passes (sections 4.2 and 5.2.2): the failure of the request, a retransmission, the end of the wait for a
-- separate response, EXCHANGE_LIFETIME after the Empty acknowledgement (profile)

abbrev pub has_waited : ℕ → Option Moment → Bool
has_waited at None = false
has_waited at (Some acked) = nat_le exchange_lifetime (at - acked.0)

abbrev pub acked_in : Option Exchange → Option Moment
acked_in None = None
acked_in (Some x) = x.acked

abbrev pub turn_of : Own → ℕ → L.Answer → Turn
turn_of s at (L.Expired to id) = if is_of_request s to id then turn.End event.Timeout else turn.Idle
turn_of s at (L.Copied to id) = turn.Copied
turn_of s at L.Idle = if has_waited at (acked_in s.running) then turn.End event.NoResponse else turn.Idle
turn_of s at _ = turn.Idle

abbrev pub running_unless : Turn → Option Exchange → Option Exchange
running_unless (turn.End e) running = None
running_unless turn.Idle running = running
running_unless turn.Copied running = running
