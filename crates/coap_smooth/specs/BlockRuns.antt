-- A smooth run in which a body is sent in blocks, with its datagrams (RFC 7959, section 2.5). It has the newest
-- event, or datagram, first.
use Rattle.std.specs.Prelude.{◌<◌, ◌≡◌, ℕ, ◌+◌, None, List, [], ◌∷◌, codes}
use Rattle.coap_types.specs.Past.{Sometime}
use Rattle.coap_client.specs.Sendings.{Taken}
use Rattle.coap_client.specs.Trace.{Done}
use Rattle.coap_exchange.specs.SuccessCodes.{created}
use Rattle.coap_record.specs.Events.{client_end, Calls, TickClient, TickServer, Deliver, Event}
use Rattle.coap_promise.specs.LateRuns.{Applied, ChangesOnly, answer_bytes, block_bytes, by_16, continue, uploading}
use Rattle.coap_record.specs.LegalEvents.{event}
use Rattle.coap_promise.specs.LegalRuns.{from_client, from_server, Runs, reported, Reports, Holds, t}
use Rattle.coap_record.specs.Record.{Turn}
use Rattle.coap_smooth.specs.Reported.{TakenSince, most_ms}
use Rattle.coap_smooth.specs.Smooth.{Smooth, NoStranger, NoneObserved}

-- both ends tick
abbrev pub both_tick : ℕ → List Event → List Event
both_tick at past = event at TickServer ∷ event at TickClient ∷ past

-- Each datagram comes at its last moment. The first block is answered by 2.31, so a further request is sent: its
-- answer comes at 4,000, and at 6,001 it is promised that the call was reported.
abbrev pub puts_in_blocks : List Event
puts_in_blocks =
    event 6001 TickClient ∷ both_tick 6000 (both_tick 5000 (both_tick 4000 (
    event 4000 (Deliver 3) ∷ both_tick 3000 (
    event 3000 (Deliver 2) ∷ both_tick 2000 (
    event 2000 (Deliver 1) ∷ both_tick 1000 (
    event 1000 (Deliver 0) ∷
    event 0 TickClient ∷
    event 0 (Calls (uploading (codes "abcdefghijklmnopq"))) ∷
    []))))))

-- its blocks: 0/1/16 and 1/0/16

abbrev pub first_block : List ℕ
first_block = block_bytes 0 8 (codes "abcdefghijklmnop")

abbrev pub last_block : List ℕ
last_block = block_bytes 1 16 (codes "q")

-- the call
abbrev pub upload : Taken
upload = record { number = 0; request = uploading (codes "abcdefghijklmnopq") }

-- It was taken at 0 where no other was unfinished, and one further request was sent since: now its report is promised.
pub record SpeaksThen (at : ℕ) (past : List Turn) (turn : Turn) : Type 0 where
  pub moment : turn.event.at ≡ at
  pub since : TakenSince by_16 upload 0 0 1 past
  pub late : 0 + most_ms by_16 0 1 < turn.event.at

pub record PutsInBlocks : Type 0 where
  pub run : Runs by_16 puts_in_blocks
      (from_server 3000 client_end (answer_bytes created 1 16) ∷ from_client 2000 last_block ∷
      from_server 1000 client_end (answer_bytes continue 0 8) ∷ from_client 0 first_block ∷ [])
  pub reports : Reports run (reported (Done created) ∷ [])
  pub smooth : Smooth by_16 run.turns
  pub no_stranger : NoStranger run.turns
  pub none_observed : NoneObserved run.turns
  pub speaks : Sometime (SpeaksThen 6001) run.turns
  pub applied : Applied run 0
  pub once : ChangesOnly run 1
  pub holds : Holds run t 1 None (codes "abcdefghijklmnopq")
