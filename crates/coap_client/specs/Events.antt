-- What the exchanges tell makes of a client: an answer, a notification, a failure (RFC 7252, sections 4.2, 5.2 and
-- 5.3.2).
use Rattle.std.specs.Prelude.{ℕ, ◌+◌, not, ◌&&◌, nat_le, Bool, true, false, Option, Some, None, List, [], ◌∷◌}
use Rattle.std.specs.Prelude.{if◌then◌else◌, Result, Ok, Err}
use Rattle.coap_types.specs.declared.transmission.TheConstants.{MAX_LATENCY_MS as max_latency}
use Rattle.coap_codec.specs.Message.{Message}
use Rattle.coap_exchange.specs.declared.asker.AskRefusal.{AskRefusal}
use Rattle.coap_exchange.specs.declared.asker.Event.{Event}
use Rattle.coap_exchange.specs.declared.asker.Event.TheVariants as event
use Rattle.coap_exchange.specs.declared.asker.Turn.{Turn}
use Rattle.coap_exchange.specs.declared.asker.Turn.TheVariants as turn
use Rattle.coap_client.specs.Trace.{Request, Report, Cancelled, NoIds}
use Rattle.coap_client.specs.Own.{Transfer, Operation, Calling, Registering, Fetching, Cancelling}
use Rattle.coap_client.specs.Own.{Dropped, Own}
use Rattle.coap_client.specs.Observations.{rest_of, to_fetch}
use Rattle.coap_client.specs.Calls.{Next, Asks, Ends, answer}
use Rattle.coap_client.specs.Effects.{Effect, stays, runs, ends, of, is_upload, held_by, has_sent}
use Rattle.coap_client.specs.Effects as deed
use Rattle.coap_client.specs.Observing.{is_over, registered, noticed}
use Rattle.coap_client.specs.Fetching.{fetch_over, fetch_answered}
use Rattle.coap_client.specs.Reports.{lapse}

-- the answer to the request of the operation that runs

abbrev pub called : ℕ → Request → Transfer → Own → Next → Effect
called number r t s (Asks next) = runs (Calling number r next) s
called number r t s (Ends final report) = ends (of number report) (held_by (not final) t s)

-- any answer to the cancel ends the observation
abbrev pub cancel_over : ℕ → Report → Own → Effect
cancel_over number report s = is_over number report (record s { running = None })

abbrev pub answered : Own → ℕ → Message → Option Operation → Effect
answered s at m None = stays s
answered s at m (Some (Calling number r t)) = called number r t s (answer r t m)
answered s at m (Some (Registering number path)) = registered number path s at m
answered s at m (Some (Fetching number)) = fetch_answered number (rest_of number s.observations) s m
answered s at m (Some (Cancelling number)) = cancel_over number Cancelled s
answered s at m (Some Dropped) = ends None s

-- its exchange failed, or none began: the last report. A fetch gives none; an observation whose cancel fails is over.
abbrev pub failed : (Transfer → Bool) → Report → Own → Option Operation → Effect
failed unanswered report s None = stays s
failed unanswered report s (Some (Calling number r t)) = ends (of number report) (held_by (unanswered t) t s)
failed unanswered report s (Some (Registering number path)) = ends (of number report) s
failed unanswered report s (Some (Fetching number)) = fetch_over number None s
failed unanswered report s (Some (Cancelling number)) = cancel_over number report s
failed unanswered report s (Some Dropped) = ends None s

-- a datagram that arrived
abbrev pub happened : Own → ℕ → Option Event → Effect
happened s at None = stays s
happened s at (Some (event.Answer m)) = answered s at m s.running
happened s at (Some (event.Notice m)) = noticed s at m
happened s at (Some e) = failed (λ t. true) (lapse e) s s.running

-- A tick: an expiry, a copy, the end of a wait; then, where nothing runs, a fetch for an observation starts, the one of
-- the lowest number, or else the first of the queue, unless it is an upload that is held back.

abbrev pub is_held : Own → ℕ → Bool
is_held s at = elim s.hold [ None ↦ false | Some last ↦ nat_le at (last + max_latency) ]

abbrev pub is_upload_op : Operation → Bool
is_upload_op (Calling number r t) = is_upload t
is_upload_op op = false

abbrev pub starts : Own → ℕ → List Operation → Effect
starts s at [] = stays s
starts s at (op ∷ queue) = if is_upload_op op && is_held s at then stays s else runs op (record s { queue = queue })

abbrev pub idle : Own → ℕ → Option Operation → Option ℕ → Effect
idle s at (Some op) number = stays s
idle s at None (Some number) = runs (Fetching number) s
idle s at None None = starts s at s.queue

abbrev pub passes : Own → ℕ → Turn → Effect
passes s at turn.Idle = idle s at s.running (to_fetch s.observations)
passes s at turn.Copied = stays (record s { sent = at })
passes s at (turn.End e) = failed (λ t. true) (lapse e) s s.running

-- The request that is asked for is sent, or no Message ID or token is free for it. An upload that has sent no block
-- holds back none.
abbrev pub closed : ℕ → Effect → deed.Deed → Result (List ℕ) AskRefusal → Effect
closed at e (deed.Asks op) (Ok token) = stays (record e.own { sent = at })
closed at e (deed.Asks op) (Err why) = failed has_sent NoIds e.own (Some op)
closed at e deed.Rests token = e
closed at e (deed.Keeps t) token = record e { deed = deed.Rests }
closed at e (deed.Releases t) token = record e { deed = deed.Rests }
