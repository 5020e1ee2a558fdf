-- A smooth run in which a path is observed whose notifications go in NONs (RFC 7641, section 4.5). It has the newest
-- event, or datagram, first.
use Rattle.std.specs.Prelude.{◌≡◌, ℕ, Some, List, [], ◌∷◌, ◌++◌, codes}
use Rattle.coap_types.specs.Past.{Sometime}
use Rattle.coap_resource.specs.Content.{Held}
use Rattle.coap_smooth.specs.Current.{FitsABlock, HoldsFor, last_shown, ObservesAlone, WasShown, Watches}
use Rattle.coap_smooth.specs.CurrentRuns.{observed, value, watched}
use Rattle.coap_record.specs.Events.{client_end, Config, TickClient, TickServer, Deliver, Event}
use Rattle.coap_record.specs.LegalEvents.{event}
use Rattle.coap_promise.specs.LegalRuns.{config, from_client, from_server, Runs, token, tag, plain, t, puts}
use Rattle.coap_promise.specs.ObservationRuns.{observe_bytes, first_bytes}
use Rattle.coap_record.specs.Record.{Turn, entries_of, client_of}
use Rattle.coap_smooth.specs.Smooth.{SmoothFewTold}

-- the path is plain
abbrev pub by_non : Config
by_non = record config { plains = t ∷ [] }

-- At 3 the path changes, and the server tells it at once. The NON comes at its last moment, and nothing is
-- acknowledged. At 5,003 the path has held this for 5,000 ms.
abbrev pub shows_plain : List Event
shows_plain =
    event 5003 TickServer ∷
    event 5000 TickClient ∷
    event 4003 TickServer ∷
    event 4000 TickClient ∷
    event 3003 TickServer ∷
    event 3000 TickClient ∷
    event 2003 TickServer ∷
    event 2000 TickClient ∷
    event 1003 (Deliver 2) ∷
    event 1003 TickServer ∷
    event 1000 TickClient ∷
    event 3 TickServer ∷
    event 3 (puts (codes "b")) ∷
    observed

-- a notification in a NON
abbrev pub plain_bytes : List ℕ
plain_bytes = 0x58 ∷ 0x45 ∷ 0 ∷ 0 ∷ token ++ 0x48 ∷ tag 2 ++ 0x21 ∷ 2 ∷ 0x60 ∷ 0xff ∷ codes "b"

-- what the path holds in its second version
abbrev pub second : Held
second = record { version = 2; format = Some plain; body = codes "b" }

-- At this moment each premise of the promise holds, and so does what is promised.
pub record SpeaksThen (at : ℕ) (past : List Turn) (turn : Turn) : Type 0 where
  pub moment : turn.event.at ≡ at
  pub holds : HoldsFor by_non t second turn.event.at (turn ∷ past)
  pub was_shown : WasShown by_non 0 turn.event.at (turn ∷ past)
  pub watches : Watches by_non 0 (entries_of (turn ∷ past))
  pub shown : last_shown by_non 0 (turn ∷ past) ≡ Some (value 2 (codes "b"))

pub record ShowsPlain : Type 0 where
  pub run : Runs by_non shows_plain (from_server 3 client_end plain_bytes ∷ from_server 1 client_end first_bytes ∷
      from_client 0 observe_bytes ∷ [])
  pub smooth : SmoothFewTold by_non run.turns
  pub alone : ObservesAlone watched (client_of (entries_of run.turns))
  pub short : FitsABlock by_non t (entries_of run.turns)
  pub speaks : Sometime (SpeaksThen 5003) run.turns
