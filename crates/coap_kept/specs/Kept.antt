-- A server that goes on from its journal.
use Rattle.std.specs.Prelude.{◌≡◌, ◌≤◌, ◌+◌, ◌-◌, ◌^◌, ◌++◌, min, ℕ, Bool, true, false, List, [], length}
use Rattle.coap_layer.specs.Trace.{Packet}
use Rattle.coap_server.specs.Led.{State}
use Rattle.coap_journal.specs.Frames.{frame}
use Rattle.coap_journal.specs.Records.{Woke, record_bytes}
use Rattle.coap_journal.specs.Waking.{IsSameBoot, same_boot_moment}
use Rattle.coap_journal.specs.declared.beginning.Beginning.{Beginning}
use Rattle.coap_journal.specs.declared.beginning.Life.{Life}
use Rattle.coap_journal.specs.declared.waking.TheConstants.{SILENCE_MS as silence}
use Rattle.coap_journaled.specs.Journal.{Journal}
use Rattle.coap_kept.specs.Draining.{Drops}
use Rattle.coap_kept.specs.Machines.{life_on}
use Rattle.coap_kept.specs.Renewal.{IsRenewedFrom}
use Rattle.coap_kept.specs.Revival.{IsRevived}
use Rattle.coap_kept.specs.WholeFile.{IsMadeWhole}
use Rattle.coap_kept.specs.declared.keep_words.Keeping.{Keeping}
use Rattle.coap_kept.specs.declared.keeping.Silences.{Silences}
use Rattle.coap_kept.specs.declared.machine.Machine.{Machine}
use Rattle.coap_kept.specs.declared.renewal.TheConstants.{RENEWAL_SILENCE_MS as renewal_silence}
use Rattle.coap_replay.specs.Replaying.{Gives}
use Rattle.coap_replay.specs.declared.replay.Replayed.{Replayed}

-- A server that had this life and this latest moment goes on, by the machine that it asks for first. In the same boot
-- it goes on at once, on that machine. In another boot it was silent before, and the silence alone is counted.
pub record GoesOnAt (life : Life) (latest : ℕ) (asked : Machine) (silent first : ℕ) (awake : Machine) : Type 0 where
  pub same : IsSameBoot life asked.boot asked.uptime
      → (first ≡ same_boot_moment life latest asked.uptime) × (awake ≡ asked)
  pub other : (IsSameBoot life asked.boot asked.uptime → ⊥)
      → (first ≡ min (latest + silence) (2 ^ 64 - 1)) × (silence ≤ silent)

-- .. on the machine that it asks for again, in another boot (`names` is which machine is named, and what names it
-- before and after)
pub record IsWaitedFor {N : Type 0} (names : N → Machine → N → Type 0) (old : N) (life : Life)
    (latest silent first : ℕ) (awake : Machine) (new : N) : Type 0 where
  pub asked : Machine
  pub between : N
  pub asks : names old asked between
  pub once : IsSameBoot life asked.boot asked.uptime → new ≡ between
  pub again : (IsSameBoot life asked.boot asked.uptime → ⊥) → names between awake new
  pub goes_on : GoesOnAt life latest asked silent first awake

-- the frame of a further life on this machine, which begins at this moment, follows the bytes
abbrev pub IsAwake : List ℕ → Machine → ℕ → List ℕ → Type 0
IsAwake old machine first new = new ≡ old ++ frame (length old) (record_bytes (Woke (life_on machine first)))

-- the journal is the one that was there; or, where its server is begun anew, that was silent, and then its journal was
-- made for the server of the one that was there
abbrev pub IsRenewedIf : Bool → Keeping → ℕ → List ℕ → List ℕ → Beginning → Replayed → State → Type 0
IsRenewedIf false keeping silent there bytes is r s = bytes ≡ there
IsRenewedIf true keeping silent there bytes is r s = (was : Beginning) × (replayed : Replayed) × (old : State)
    × IsRevived there keeping.wishes was replayed old × IsRenewedFrom keeping was old bytes is r s
    × (renewal_silence ≤ silent)

-- the server of a journal, before a further life begins
pub record IsMade (keeping : Keeping) (silent : ℕ) (there bytes : List ℕ) (r : Replayed) (s : State) : Type 0 where
  pub beginning : Beginning
  pub revived : IsRevived bytes keeping.wishes beginning r s
  pub renewed : IsRenewedIf keeping.renews keeping silent there bytes beginning r s

-- .. and it began one
pub record IsAwoken (keeping : Keeping) (silent : Silences) (first : ℕ) (there bytes : List ℕ) (s : State)
    : Type 0 where
  pub before : List ℕ
  pub replayed : Replayed
  pub made : IsMade keeping silent.renewal there before replayed s
  pub asked : Machine
  pub machine : Machine
  pub goes_on : GoesOnAt replayed.life replayed.latest.0 asked silent.boot first machine
  pub awake : IsAwake before machine first bytes

-- .. from what was found in its file, which was made whole on a machine
pub record IsAlive (keeping : Keeping) (silent : Silences) (first : ℕ) (bytes : List ℕ) (s : State) : Type 0 where
  pub machine : Machine
  pub found : List ℕ
  pub there : List ℕ
  pub whole : IsMadeWhole keeping machine found there
  pub awoken : IsAwoken keeping silent first there bytes s

-- the end of that server, which noted and gave out nothing since; its next frame follows the bytes
pub record IsBegun {F : Type 0} (keeping : Keeping) (silent : Silences) (first : ℕ) (j : Journal State F) : Type 0 where
  pub bytes : List ℕ
  pub alive : IsAlive keeping silent first bytes j.end
  pub stands : j.place ≡ length bytes
  pub none_noted : j.inputs ≡ []
  pub none_taken : j.taken ≡ 0
  pub going : j.over ≡ false

-- What waited there was dropped, and counts as taken, so that a replay of the next frame takes it first; nothing waits.
pub record IsKept {F : Type 0} (keeping : Keeping) (silent : Silences) (first : ℕ) (j : Journal State F) : Type 0 where
  pub begun : Journal State F
  pub begins : IsBegun keeping silent first begun
  pub dropped : List Packet
  pub drops : Drops Gives begun dropped j
  pub counted : j.taken ≡ length dropped
  pub none_waits : j.end.layer.queue ≡ []
