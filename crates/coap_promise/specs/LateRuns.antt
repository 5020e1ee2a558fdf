-- A legal run in which a block of an upload comes after its Timeout, with the datagrams that the ends give out in it
-- (RFC 7252, section 4.8.2; RFC 7959, section 2.5). Each has the newest event, or datagram, first.
use Rattle.std.specs.Prelude.{◌≡◌, ℕ, None, List, [], ◌∷◌, ◌++◌, codes}
use Rattle.coap_types.specs.Past.{Sometime}
use Rattle.coap_types.specs.declared.message.TheConstants.Code.{CONTINUE}
use Rattle.coap_types.specs.declared.request.Method.TheVariants.{Put}
use Rattle.coap_block.specs.Sizes.{Sizes, usual_sizes}
use Rattle.coap_client.specs.Trace.{Request, Timeout, Done, Reported}
use Rattle.coap_exchange.specs.SuccessCodes.{created}
use Rattle.coap_record.specs.Events.{client_end, Config, Calls, TickClient, Deliver, Event}
use Rattle.coap_record.specs.LegalEvents.{event}
use Rattle.coap_promise.specs.LegalRuns.{config, from_client, from_server, Runs, reported, Reports, Holds, t, get}
use Rattle.coap_record.specs.Record.{Given, entries_of}
use Rattle.coap_promise.specs.Words.{AppliesFor, changes_in}

-- a request of this call is applied in it; its server makes so many changes in all
module _ {config : Config} {events : List Event} {given : List Given} (run : Runs config events given) where
  abbrev pub Applied : ℕ → Type 0
  Applied number = Sometime (AppliesFor config number (entries_of run.turns)) (entries_of run.turns)

  abbrev pub ChangesOnly : ℕ → Type 0
  ChangesOnly times = changes_in config (entries_of run.turns) ≡ times

-- blocks of 16 bytes
abbrev pub sizes_16 : Sizes
sizes_16 = usual_sizes 0

abbrev pub by_16 : Config
by_16 = record config { client_sizes = sizes_16 }

-- the token of a request
abbrev pub key : ℕ → List ℕ
key n = 0 ∷ 0 ∷ 0 ∷ 0 ∷ 0 ∷ 0 ∷ 0 ∷ n ∷ []

-- a block: Uri-Path and Block1, which is 0/1/16 as 8, 1/1/16 as 24, and 2/0/16 as 32; its response has the same Block1

abbrev pub block_bytes : ℕ → ℕ → List ℕ → List ℕ
block_bytes n block payload = 0x48 ∷ 3 ∷ 0 ∷ n ∷ key n ++ 0xb1 ∷ codes "t" ++ 0xd1 ∷ 3 ∷ block ∷ 0xff ∷ payload

abbrev pub answer_bytes : ℕ → ℕ → ℕ → List ℕ
answer_bytes code n block = 0x68 ∷ code ∷ 0 ∷ n ∷ key n ++ 0xd1 ∷ 0x0e ∷ block ∷ []

-- a PUT of this body at `t`
abbrev pub uploading : List ℕ → Request
uploading body = record get { method = Put; body = body }

-- the second call is done
abbrev pub second_done : Reported
second_done = record { number = 1; report = Done created }

-- 2.31 (Continue)
abbrev pub continue : ℕ
continue = CONTINUE.0

-- a datagram that goes out at 0 and is copied four times
abbrev pub five_times : List ℕ → List Given
five_times bytes = from_client 30000 bytes ∷ from_client 14000 bytes ∷ from_client 6000 bytes ∷ from_client 2000 bytes ∷
    from_client 0 bytes ∷ []

-- The second block of an upload is never acknowledged: it goes out five times, at last at 30,000, and Timeout is
-- reported. The upload that is called then is held back to 130,000, while that last copy may still come (MAX_LATENCY:
-- RFC 7252, section 4.8.2). It comes at 130,000, and is taken: before the first block of the held one, which begins its
-- body anew (RFC 7959, section 2.5). So no block of the one gets into the body of the other. The held one alone is
-- applied, whole.

abbrev pub lost_body : List ℕ
lost_body = codes "abcdefghijklmnopqrstuvwxyzabcdefg"

abbrev pub held_body : List ℕ
held_body = codes "ABCDEFGHIJKLMNOPQRSTUVWXYZABCDEFG"

abbrev pub holds_back : List Event
holds_back =
    event 130001 (Deliver 13) ∷
    event 130001 (Deliver 12) ∷
    event 130001 (Deliver 11) ∷
    event 130001 (Deliver 10) ∷
    event 130001 (Deliver 9) ∷
    event 130001 (Deliver 8) ∷
    event 130001 TickClient ∷
    event 130000 (Deliver 7) ∷
    event 130000 (Deliver 6) ∷
    event 130000 TickClient ∷
    event 62000 (Calls (uploading held_body)) ∷
    event 62000 TickClient ∷
    event 30000 TickClient ∷
    event 14000 TickClient ∷
    event 6000 TickClient ∷
    event 2000 TickClient ∷
    event 0 (Deliver 1) ∷
    event 0 (Deliver 0) ∷
    event 0 TickClient ∷
    event 0 (Calls (uploading lost_body)) ∷
    []

-- its blocks

abbrev pub lost_first : List ℕ
lost_first = block_bytes 0 8 (codes "abcdefghijklmnop")

abbrev pub lost_second : List ℕ
lost_second = block_bytes 1 24 (codes "qrstuvwxyzabcdef")

abbrev pub held_first : List ℕ
held_first = block_bytes 2 8 (codes "ABCDEFGHIJKLMNOP")

abbrev pub held_second : List ℕ
held_second = block_bytes 3 24 (codes "QRSTUVWXYZABCDEF")

abbrev pub held_third : List ℕ
held_third = block_bytes 4 32 (codes "G")

pub record HoldsBack : Type 0 where
  pub run : Runs by_16 holds_back
      (from_server 130001 client_end (answer_bytes created 4 32) ∷ from_client 130001 held_third ∷
      from_server 130001 client_end (answer_bytes continue 3 24) ∷ from_client 130001 held_second ∷
      from_server 130001 client_end (answer_bytes continue 2 8) ∷ from_client 130001 held_first ∷
      from_server 130000 client_end (answer_bytes continue 1 24) ∷ five_times lost_second ++
      from_server 0 client_end (answer_bytes continue 0 8) ∷ from_client 0 lost_first ∷ [])
  pub reports : Reports run (reported Timeout ∷ second_done ∷ [])
  pub applied : Applied run 1
  pub once : ChangesOnly run 1
  pub holds : Holds run t 1 None held_body
