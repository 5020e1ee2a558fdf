-- A legal run of two clients whose messages in flight at one moment have equal Message IDs and equal tokens (RFC 7252,
-- sections 4.4 and 5.3.1): the laws of many are laws of something. Each list has the newest first.
use Rattle.std.specs.Prelude.{◌≡◌, ℕ, Some, None, List, [], ◌∷◌, ◌++◌, codes}
use Rattle.coap_types.specs.Past.{Ever, Sometime}
use Rattle.coap_client.specs.Trace.{Body, Done}
use Rattle.coap_exchange.specs.SuccessCodes.{changed}
use Rattle.coap_record.specs.Events.{client_end}
use Rattle.coap_promise.specs.LegalRuns.{token, tag, plain, t, get, get_bytes, content_bytes}
use Rattle.coap_promise.specs.LegalRuns.{changed_bytes, from_server}
use Rattle.coap_record.specs.Record.{Given}
use Rattle.coap_smooth.specs.SmoothRuns.{put, put_bytes}
use Rattle.coap_many.specs.Clients.{Config}
use Rattle.coap_many.specs.Entries.{Turn, IsNumber, entries_of}
use Rattle.coap_many.specs.Events.{Event, Acts, Calls, Ticks, Sets, Deliver}
use Rattle.coap_many.specs.ManyRuns.{second_end, first, second, with_clients, event, ahead, to_server}
use Rattle.coap_many.specs.ManyRuns.{Runs, told, told_to}
use Rattle.coap_many.specs.Words.{holds_at, changes_in}

abbrev pub config : Config
config = with_clients (first ∷ second ∷ [])

-- The server holds `hi` at `t`. The one client gets it, and the other puts `ho` there. Each request comes after 5 ms,
-- and each response after 4 ms.

abbrev pub crosses : List Event
crosses =
    event 1000009 (Deliver 3) ∷
    event 9 (Deliver 2) ∷
    event 5 (Deliver 1) ∷
    event 5 (Deliver 0) ∷
    event 1000000 (Acts second_end Ticks) ∷
    event 1000000 (Acts second_end (Calls put)) ∷
    event 0 (Acts client_end Ticks) ∷
    event 0 (Acts client_end (Calls get)) ∷
    event 0 (Sets t (Some plain) (codes "hi")) ∷
    []

-- what the clocks of the first client and of the server show at these events
abbrev pub moments : List ℕ
moments = 9 ∷ 9 ∷ 5 ∷ 5 ∷ 0 ∷ 0 ∷ 0 ∷ 0 ∷ 0 ∷ []

-- A message whose token has 8 bytes has its Message ID in bytes 2 and 3, and its token in the 8 behind them (section
-- 3).
pub record HasWords (id token bytes : List ℕ) : Type 0 where
  pub code : ℕ
  pub rest : List ℕ
  pub is : bytes ≡ 0x48 ∷ code ∷ id ++ token ++ rest

-- the datagram of this number is in flight: it was given out, and was not delivered
pub record IsInFlight (number : ℕ) (g : Given) (past : List Turn) : Type 0 where
  pub given : IsNumber config number g past
  pub on_its_way : Ever (λ (t : Turn). t.event.what ≡ Deliver number) past → ⊥

-- here one of each client is, with the same Message ID and token
pub record Cross (past : List Turn) : Type 0 where
  pub of_first : IsInFlight 0 (to_server 0 client_end get_bytes) past
  pub of_second : IsInFlight 1 (to_server ahead second_end put_bytes) past
  pub first_words : HasWords (0 ∷ 0 ∷ []) token get_bytes
  pub second_words : HasWords (0 ∷ 0 ∷ []) token put_bytes

-- They cross; each client reports the answer to its own request, and what was put is there once.
pub record Crosses : Type 0 where
  pub run : Runs config moments crosses
      (from_server 5 second_end changed_bytes ∷ from_server 5 client_end content_bytes ∷ to_server ahead second_end
      put_bytes ∷ to_server 0 client_end get_bytes ∷ [])
  pub cross : Sometime (λ past turn. Cross past) run.turns
  pub first_reports : told_to client_end run.turns ≡ told 0 (Body (Some (tag 1)) (Some plain) (codes "hi")) ∷ []
  pub second_reports : told_to second_end run.turns ≡ told 0 (Done changed) ∷ []
  pub holds : holds_at config t (entries_of run.turns)
      ≡ Some (record { version = 2; format = None; body = codes "ho" })
  pub changes : changes_in config (entries_of run.turns) ≡ 2
