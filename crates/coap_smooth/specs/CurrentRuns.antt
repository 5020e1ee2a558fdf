-- How late a value may come in a smooth run, and a run in which a notification is lost, so that an old value stays (RFC
-- 7641, sections 1.3 and 4.5). Each has the newest event, or datagram, first.
use Rattle.std.specs.Prelude.{◌≡◌, ℕ, Some, List, [], ◌∷◌, ◌++◌, codes}
use Rattle.coap_types.specs.Past.{Sometime}
use Rattle.coap_resource.specs.Content.{Held}
use Rattle.coap_client_laws.specs.Follows.OfObservations.{Observed}
use Rattle.coap_client.specs.Trace.{Report, Value}
use Rattle.coap_smooth.specs.Current.{last_shown, CurrentAlone, FitsABlock, HoldsFor, ObservesAlone, WasShown, Watches}
use Rattle.coap_record.specs.Events.{client_end, Observes, TickClient, TickServer, Deliver, Event}
use Rattle.coap_record.specs.LegalEvents.{event, at_with}
use Rattle.coap_promise.specs.LegalRuns.{config, from_client, from_server, Runs, reported, Reports, Holds, token, tag}
use Rattle.coap_promise.specs.LegalRuns.{plain, t, puts, empty_ack}
use Rattle.coap_promise.specs.ObservationRuns.{observe_bytes, first_bytes, second_bytes}
use Rattle.coap_record.specs.Record.{Turn, entries_of, client_of}
use Rattle.coap_smooth.specs.Smooth.{SmoothFewTold}
use Rattle.coap_promise.specs.Words.{holds_at}

-- the observation of all of these runs
abbrev pub watched : Observed
watched = record { number = 0; path = t }

-- a value of a version
abbrev pub value : ℕ → List ℕ → Report
value version body = Value version (Some (tag version)) (Some plain) body

-- a notification in a CON
abbrev pub notice_bytes : ℕ → ℕ → List ℕ → List ℕ
notice_bytes id version body = 0x48 ∷ 0x45 ∷ 0 ∷ id ∷ token ++ 0x48 ∷ tag version ++ 0x21 ∷ version ∷ 0x60 ∷ 0xff ∷ body

abbrev pub third_bytes : List ℕ
third_bytes = notice_bytes 1 3 (codes "c")

-- the Empty acknowledgement of the second one
abbrev pub second_ack : List ℕ
second_ack = 0x60 ∷ 0 ∷ 0 ∷ 1 ∷ []

-- until the first value is reported
abbrev pub observed : List Event
observed =
    event 2 (Deliver 1) ∷
    event 1 (Deliver 0) ∷
    event 0 TickClient ∷
    event 0 (Observes t) ∷
    event 0 (puts (codes "a")) ∷
    []

-- The value that comes latest. At 3 the server tells a change in a CON, and the path changes again. The CON comes after
-- 1,000 ms, and its acknowledgement 1,000 ms later, just behind the server's tick; the next tick is at 3,003, and what
-- it tells comes at 4,003. At 5,003 the path has held this for 5,000 ms.
abbrev pub shows_late : List Event
shows_late =
    event 5003 TickServer ∷
    event 5003 (Deliver 5) ∷
    event 5000 TickClient ∷
    event 4003 (Deliver 4) ∷
    event 4003 TickServer ∷
    event 4002 TickClient ∷
    event 4000 TickClient ∷
    event 3003 TickServer ∷
    event 3000 TickClient ∷
    event 2003 (Deliver 3) ∷
    event 2003 TickServer ∷
    event 2000 TickClient ∷
    event 1003 (Deliver 2) ∷
    event 1003 TickServer ∷
    event 1000 TickClient ∷
    event 3 (puts (codes "c")) ∷
    at_with 3 1 TickServer ∷
    event 3 (puts (codes "b")) ∷
    observed

-- what the path holds in its third version
abbrev pub third : Held
third = record { version = 3; format = Some plain; body = codes "c" }

-- at this moment the path holds that, and this is the last value
pub record ShowsThen (at : ℕ) (last : Report) (past : List Turn) (turn : Turn) : Type 0 where
  pub moment : turn.event.at ≡ at
  pub held : holds_at config t (entries_of (turn ∷ past)) ≡ Some third
  pub shown : last_shown config 0 (turn ∷ past) ≡ Some last

-- At this moment each premise of the promise holds: the path held that for 5,000 ms, a first value was reported 5,000
-- ms before, and the observation goes on.
pub record SpeaksThen (at : ℕ) (past : List Turn) (turn : Turn) : Type 0 where
  pub moment : turn.event.at ≡ at
  pub holds : HoldsFor config t third turn.event.at (turn ∷ past)
  pub was_shown : WasShown config 0 turn.event.at (turn ∷ past)
  pub watches : Watches config 0 (entries_of (turn ∷ past))

pub record ShowsLate : Type 0 where
  pub run : Runs config shows_late (from_client 4003 second_ack ∷ from_server 3003 client_end third_bytes ∷ from_client
      1003 empty_ack ∷ from_server 3 client_end second_bytes ∷ from_server 1 client_end first_bytes ∷ from_client 0
      observe_bytes ∷ [])
  pub smooth : SmoothFewTold config run.turns
  pub alone : ObservesAlone watched (client_of (entries_of run.turns))
  -- 3,999 ms after the last change the value before is the last one, and 1 ms later the new one is
  pub old : Sometime (ShowsThen 4002 (value 2 (codes "b"))) run.turns
  pub new : Sometime (ShowsThen 4003 (value 3 (codes "c"))) run.turns
  -- .. at 5,003 it is promised, and is so
  pub short : FitsABlock config t (entries_of run.turns)
  pub speaks : Sometime (SpeaksThen 5003) run.turns
  pub then : Sometime (ShowsThen 5003 (value 3 (codes "c"))) run.turns

-- A notification is lost: 5,000 ms after the change the value before it is the last one still.

abbrev pub loses : List Event
loses = event 5003 TickClient ∷ event 3 TickServer ∷ event 3 (puts (codes "b")) ∷ observed

pub record StaysOld : Type 0 where
  pub run : Runs config loses (from_server 3 client_end second_bytes ∷ from_server 1 client_end first_bytes
      ∷ from_client 0
      observe_bytes ∷ [])
  pub alone : ObservesAlone watched (client_of (entries_of run.turns))
  pub reports : Reports run (reported (value 1 (codes "a")) ∷ [])
  pub holds : Holds run t 2 (Some plain) (codes "b")
  -- that an observation's last value is the current one isn't true of it
  pub stale : CurrentAlone config run.turns → ⊥
