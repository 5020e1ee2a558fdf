-- A run in which an exchange ends at its last moment, with its datagrams (RFC 7252, sections 4.2 and 5.2.2). Each has
-- the newest event, or datagram, first.
use Rattle.std.specs.Prelude.{◌≡◌, List, [], ◌∷◌}
use Rattle.coap_types.specs.Past.{Sometime}
use Rattle.coap_client.specs.Trace.{NoResponse}
use Rattle.coap_client_laws.specs.Follows.Open.{IsOpenSince}
use Rattle.coap_record.specs.Events.{client_end, Calls, TickClient, Deliver, Event}
use Rattle.coap_record.specs.LegalEvents.{event}
use Rattle.coap_record.specs.Record.{Turn, entries_of, client_of}
use Rattle.coap_promise.specs.LegalRuns.{from_client, from_server, Runs, Reports, reported, slow, hi, get, sizes}
use Rattle.coap_promise.specs.LegalRuns.{get_bytes, empty_ack}

-- A GET whose path has a delay goes out five times, and the last copy comes. Its Empty acknowledgement comes at 62,999:
-- the request would have failed at 62,000, and the next tick is late by 1,000. No response comes. EXCHANGE_LIFETIME is
-- over at 309,999, and the next tick is late by as much.

abbrev pub waits_longest : List Event
waits_longest =
    event 310998 TickClient ∷
    event 309998 TickClient ∷
    event 62999 (Deliver 5) ∷
    event 61999 TickClient ∷
    event 31000 (Deliver 4) ∷
    event 30000 TickClient ∷
    event 14000 TickClient ∷
    event 6000 TickClient ∷
    event 2000 TickClient ∷
    event 0 TickClient ∷
    event 0 (Calls get) ∷
    event 0 hi ∷
    []

pub record WaitsLongest : Type 0 where
  pub run : Runs slow waits_longest (from_server 31000 client_end empty_ack ∷ from_client 30000 get_bytes ∷ from_client
      14000 get_bytes ∷ from_client 6000 get_bytes ∷ from_client 2000 get_bytes ∷ from_client 0 get_bytes ∷ [])
  pub reports : Reports run (reported NoResponse ∷ [])
  -- at the last event the exchange is 310,998 ms old: 62,000 and 247,000, less 2, and twice what a step is late
  pub old : Sometime (λ past (turn : Turn). (turn.event.at ≡ 310998)
      × IsOpenSince sizes 0 (client_of (entries_of past))) run.turns
