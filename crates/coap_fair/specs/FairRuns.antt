-- A run with fair loss, with its datagrams (RFC 7252, sections 4.2 and 5.2.1). Each has the newest event, or datagram,
-- first.
use Rattle.std.specs.Prelude.{Some, List, [], ◌∷◌, codes}
use Rattle.coap_client.specs.Trace.{Body}
use Rattle.coap_record.specs.Events.{client_end, Calls, TickClient, Deliver, Event}
use Rattle.coap_record.specs.LegalEvents.{event}
use Rattle.coap_promise.specs.LegalRuns.{from_client, from_server, Runs, Reports, reported, config, hi, get}
use Rattle.coap_promise.specs.LegalRuns.{get_bytes, content_bytes, plain, tag}
use Rattle.coap_fair.specs.FairLoss.{FairRun}

-- A GET goes out five times, and the fifth copy comes alone. It is answered in its acknowledgement, and that comes. So
-- it has got through at 60,000.

abbrev pub fifth_comes : List Event
fifth_comes =
    event 60000 TickClient ∷
    event 33000 (Deliver 5) ∷
    event 31500 (Deliver 4) ∷
    event 30000 TickClient ∷
    event 14000 TickClient ∷
    event 6000 TickClient ∷
    event 2000 TickClient ∷
    event 0 TickClient ∷
    event 0 (Calls get) ∷
    event 0 hi ∷
    []

pub record FifthComes : Type 0 where
  pub run : Runs config fifth_comes (from_server 31500 client_end content_bytes ∷ from_client 30000 get_bytes ∷
      from_client 14000 get_bytes ∷ from_client 6000 get_bytes ∷ from_client 2000 get_bytes ∷ from_client 0 get_bytes ∷
      [])
  pub reports : Reports run (reported (Body (Some (tag 1)) (Some plain) (codes "hi")) ∷ [])
  pub fair : FairRun 1500 config run.turns
