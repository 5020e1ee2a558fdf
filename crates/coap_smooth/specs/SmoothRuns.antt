-- Smooth runs, with their datagrams, and a run whose calls are not answered smoothly (RFC 7252,
-- sections 4.2 and 5.2.2). Each has the newest event, or datagram, first.
use Rattle.std.specs.Prelude.{◌≡◌, ℕ, ◌+◌, Some, None, List, [], ◌∷◌, ◌++◌, codes}
use Rattle.coap_types.specs.Past.{Sometime}
use Rattle.coap_types.specs.declared.request.Method.TheVariants.{Put}
use Rattle.coap_client_laws.specs.Follows.Open.{IsOpenSince}
use Rattle.coap_client.specs.Trace.{Request, Body, Done}
use Rattle.coap_exchange.specs.SuccessCodes.{changed}
use Rattle.coap_record.specs.Events.{client_end, Config, Calls, TickClient, TickServer, Deliver, Event}
use Rattle.coap_record.specs.LegalEvents.{event}
use Rattle.coap_promise.specs.LateRuns.{Applied, ChangesOnly}
use Rattle.coap_promise.specs.LegalRuns.{from_client, from_server, Runs, Reports, Holds, reported, slow, hi, get}
use Rattle.coap_promise.specs.LegalRuns.{get_bytes, token}
use Rattle.coap_promise.specs.LegalRuns.{empty_ack, separate_bytes, plain, tag, t, sizes, config, with_delays, TimesOut}
use Rattle.coap_record.specs.Record.{Turn, entries_of, client_of}
use Rattle.coap_smooth.specs.Smooth.{Smooth, NoStranger, NoneObserved, TicksOften}
use Rattle.coap_smooth.specs.SmoothAnswers.{EndByAnswers, AnsweredSmoothly}
use Rattle.coap_smooth.specs.Young.{AreYoung}

-- A GET whose path has a delay of 1,000 ms: each datagram and each tick comes at its last moment.

abbrev pub defers_late : List Event
defers_late =
    event 4000 (Deliver 3) ∷
    event 3000 TickServer ∷
    event 3000 TickClient ∷
    event 3000 (Deliver 2) ∷
    event 2000 TickServer ∷
    event 2000 TickClient ∷
    event 2000 (Deliver 1) ∷
    event 1000 TickServer ∷
    event 1000 (Deliver 0) ∷
    event 1000 TickClient ∷
    event 0 TickClient ∷
    event 0 (Calls get) ∷
    event 0 hi ∷
    []

pub record DefersLate : Type 0 where
  pub run : Runs slow defers_late (from_client 3000 empty_ack ∷ from_server 2000 client_end separate_bytes ∷ from_server
      1000 client_end empty_ack ∷ from_client 0 get_bytes ∷ [])
  pub reports : Reports run (reported (Body (Some (tag 1)) (Some plain) (codes "hi")) ∷ [])
  pub smooth : Smooth slow run.turns
  pub no_stranger : NoStranger run.turns
  pub none_observed : NoneObserved run.turns

-- A PUT to that path: it is served when it is ready, and its code comes in a separate response.

abbrev pub put : Request
put = record get { method = Put; body = codes "ho" }

abbrev pub puts_late : List Event
puts_late =
    event 4000 (Deliver 3) ∷
    event 3000 TickServer ∷
    event 3000 TickClient ∷
    event 3000 (Deliver 2) ∷
    event 2000 TickServer ∷
    event 2000 TickClient ∷
    event 2000 (Deliver 1) ∷
    event 1000 TickServer ∷
    event 1000 (Deliver 0) ∷
    event 1000 TickClient ∷
    event 0 TickClient ∷
    event 0 (Calls put) ∷
    event 0 hi ∷
    []

abbrev pub put_bytes : List ℕ
put_bytes = 0x48 ∷ 3 ∷ 0 ∷ 0 ∷ token ++ 0xb1 ∷ codes "t" ++ 0xff ∷ codes "ho"

abbrev pub separate_changed : List ℕ
separate_changed = 0x48 ∷ 0x44 ∷ 0 ∷ 0 ∷ token

pub record PutsLate : Type 0 where
  pub run : Runs slow puts_late (from_client 3000 empty_ack ∷ from_server 2000 client_end separate_changed ∷ from_server
      1000 client_end empty_ack ∷ from_client 0 put_bytes ∷ [])
  pub reports : Reports run (reported (Done changed) ∷ [])
  pub smooth : Smooth slow run.turns
  pub no_stranger : NoStranger run.turns
  pub none_observed : NoneObserved run.turns
  pub applied : Applied run 0
  pub once : ChangesOnly run 2
  pub holds : Holds run t 2 None (codes "ho")

-- In which an exchange is open longest. The path has a delay of 10,000 ms, and the request comes after 1,000 ms: it is
-- ready at 11,000. The server ticked 1 ms before, so its next tick is at 11,999, and the response comes at 12,999.

abbrev pub slowest : Config
slowest = with_delays (record { path = t; ms = 10000 } ∷ [])

-- the ticks of a second: where the server ticked, and the client 1 ms later, they do so again
abbrev pub second : ℕ → List Event → List Event
second last past = event (last + 1001) TickClient ∷ event (last + 1000) TickServer ∷ past

abbrev pub defers_longest : List Event
defers_longest =
    event 12999 (Deliver 2) ∷ second 10999 (second 9999 (second 8999 (second 7999 (second 6999 (second 5999 (second 4999
    (second 3999 (second 2999 (second 1999 (
    event 2000 TickClient ∷
    event 2000 (Deliver 1) ∷
    event 1999 TickServer ∷
    event 1000 (Deliver 0) ∷
    event 1000 TickClient ∷
    event 999 TickServer ∷
    event 0 TickClient ∷
    event 0 (Calls get) ∷
    event 0 hi ∷
    []))))))))))

pub record DefersLongest : Type 0 where
  pub run : Runs slowest defers_longest (from_client 12999 empty_ack ∷ from_server 11999 client_end separate_bytes ∷
      from_server 1000 client_end empty_ack ∷ from_client 0 get_bytes ∷ [])
  pub reports : Reports run (reported (Body (Some (tag 1)) (Some plain) (codes "hi")) ∷ [])
  pub smooth : Smooth slowest run.turns
  pub no_stranger : NoStranger run.turns
  pub none_observed : NoneObserved run.turns
  -- at an event the exchange is 12,999 ms old
  pub old : Sometime (λ past (turn : Turn). (turn.event.at ≡ 12999)
      × IsOpenSince sizes 0 (client_of (entries_of past))) run.turns

-- The same where each end ticks only when something is due: from 2,000 to 11,999 nothing happens. (The request is ready
-- at 11,000; the client has a retransmission due at 2,000, unless it is acknowledged.)

abbrev pub defers_by_due : List Event
defers_by_due =
    event 12999 (Deliver 2) ∷
    event 11999 TickServer ∷
    event 2000 (Deliver 1) ∷
    event 1000 (Deliver 0) ∷
    event 0 TickClient ∷
    event 0 (Calls get) ∷
    event 0 hi ∷
    []

pub record DefersByDue : Type 0 where
  pub run : Runs slowest defers_by_due (from_client 12999 empty_ack ∷ from_server 11999 client_end separate_bytes ∷
      from_server 1000 client_end empty_ack ∷ from_client 0 get_bytes ∷ [])
  pub reports : Reports run (reported (Body (Some (tag 1)) (Some plain) (codes "hi")) ∷ [])
  pub smooth : Smooth slowest run.turns
  pub no_stranger : NoStranger run.turns
  pub none_observed : NoneObserved run.turns
  pub rare : TicksOften run.turns → ⊥

-- Of the run in which a POST times out that is not true: its exchange is open for 62,000 ms, and ends without an
-- answer.
pub record Unanswered : Type 0 where
  pub times_out : TimesOut
  pub old : AreYoung config times_out.run.turns → ⊥
  pub without : EndByAnswers config (entries_of times_out.run.turns) → ⊥
  pub unanswered : AnsweredSmoothly config times_out.run.turns → ⊥
