-- A legal run of two clients in which the one asks for what the other was told is done: it reads that. Each list has
-- the newest first.
use Rattle.std.specs.Prelude.{◌≡◌, ℕ, ◌+◌, Some, None, List, [], ◌∷◌, ◌++◌, codes}
use Rattle.coap_types.specs.Past.{Sometime}
use Rattle.coap_client.specs.Trace.{Body, Done}
use Rattle.coap_exchange.specs.SuccessCodes.{changed}
use Rattle.coap_record.specs.Events.{client_end}
use Rattle.coap_promise.specs.LegalRuns.{token, tag, plain, t, get, get_bytes, changed_bytes, from_server}
use Rattle.coap_smooth.specs.SmoothRuns.{put, put_bytes}
use Rattle.coap_many.specs.Entries.{Turn, client_of, entries_of}
use Rattle.coap_many.specs.Events.{Event, Acts, Calls, Ticks, Sets, Deliver}
use Rattle.coap_many.specs.ManyRuns.{second_end, ahead, event, to_server, Runs, told, told_to}
use Rattle.coap_many.specs.TwoClients.{config}

-- The server holds `hi` at `t`. The first client puts `ho` there, and is told that it is done. Then the second one gets
-- it.

abbrev pub reads_behind : List Event
reads_behind =
    event (ahead + 19) (Deliver 3) ∷
    event 15 (Deliver 2) ∷
    event (ahead + 10) (Acts second_end Ticks) ∷
    event (ahead + 10) (Acts second_end (Calls get)) ∷
    event 9 (Deliver 1) ∷
    event 5 (Deliver 0) ∷
    event 0 (Acts client_end Ticks) ∷
    event 0 (Acts client_end (Calls put)) ∷
    event 0 (Sets t (Some plain) (codes "hi")) ∷
    []

abbrev pub moments : List ℕ
moments = 19 ∷ 15 ∷ 10 ∷ 10 ∷ 9 ∷ 5 ∷ 0 ∷ 0 ∷ 0 ∷ []

-- 2.05 (Content), piggybacked: ETag 2 and the body, which has no format (RFC 7252, sections 5.2.1 and 5.8.1)
abbrev pub read_bytes : List ℕ
read_bytes = 0x68 ∷ 0x45 ∷ 0 ∷ 0 ∷ token ++ 0x48 ∷ tag 2 ++ 0xff ∷ codes "ho"

-- here the second client asks, and so far the first one was told that its PUT is done, and the second one did nothing
pub record AsksBehind (past : List Turn) (turn : Turn) : Type 0 where
  pub asks : turn.event.what ≡ Acts second_end (Calls get)
  pub told : told_to client_end past ≡ told 0 (Done changed) ∷ []
  pub first_act : client_of second_end (entries_of past) ≡ []

pub record ReadsBehind : Type 0 where
  pub run : Runs config moments reads_behind
      (from_server 15 second_end read_bytes ∷ to_server (ahead + 10) second_end get_bytes ∷ from_server 5 client_end
      changed_bytes ∷ to_server 0 client_end put_bytes ∷ [])
  pub behind : Sometime AsksBehind run.turns
  pub reads : told_to second_end run.turns ≡ told 0 (Body (Some (tag 2)) None (codes "ho")) ∷ []
