-- Why a journal isn't replayed.
use Rattle.std.proofs.Common.{◌⊎◌, ℕ, List, [], inl, inr}
use Rattle.coap_server.specs.Led.{Led, State}
use Rattle.coap_journal.specs.declared.beginning.Beginning.{Beginning}
use Rattle.coap_journal.specs.declared.beginning.Life.{Life}
use Rattle.coap_replay.specs.Refusing.{IsUnreplayed}
use Rattle.coap_noted.specs.Opening.{IsOpened}
use Rattle.knifesilver.specs.Journals.{IsNoServers, IsUnreadableFile, limits_of, no_server, setup_of, stopped}

-- the whole frames of a file that was opened are read, but for one at which the server stops
stopped_at : (file : List ℕ) (b : Beginning) (l : Life) (place : ℕ) (further : List ℕ) (end torn : ℕ)
    → IsOpened file b l place further end torn → (start : State)
    → Led (limits_of b) b.configuration.szx (setup_of b) [] start → IsUnreplayed place start further
    → IsUnreadableFile file
stopped_at file b l place further end torn o start led (inl stops) =
    stopped (record {
      beginning = b;
      first = l;
      place = place;
      further = further;
      end = end;
      torn = torn;
      opened = o;
      start = start;
      fresh = led;
      stops = stops;
    })
stopped_at file b l place further end torn o start led (inr none) = absurd (none o.whole)

pub not_replayed : (file : List ℕ) (b : Beginning) (l : Life) (place : ℕ) (further : List ℕ) (end torn : ℕ)
    → IsOpened file b l place further end torn
    → IsNoServers b ⊎ ((start : State) × Led (limits_of b) b.configuration.szx (setup_of b) [] start
    × IsUnreplayed place start further)
    → IsUnreadableFile file
not_replayed file b l place further end torn o (inl none) =
    no_server (record {
      beginning = b;
      first = l;
      place = place;
      further = further;
      end = end;
      torn = torn;
      opened = o;
      none = none;
    })
not_replayed file b l place further end torn o (inr h) = stopped_at file b l place further end torn o h.0 h.1 h.2
