-- The machine on which a server goes on, as Linux names it.
use Rattle.std.specs.Prelude.{◌≡◌, ◌⊎◌, ℕ, List, Option, Some, None}
use Rattle.coap_journal.specs.declared.beginning.Boot.{Boot}
use Rattle.coap_journal.specs.declared.beginning.Life.{Life}
use Rattle.coap_journal_file.specs.Boots.{boot_in, uptime_in}
use Rattle.coap_kept.specs.declared.machine.Machine.{Machine}

-- both are said
abbrev pub machine_of : Option Boot → Option ℕ → Option Machine
machine_of None uptime = None
machine_of (Some boot) None = None
machine_of (Some boot) (Some uptime) = Some (record { boot = boot; uptime = uptime })

abbrev pub machine_in : List ℕ → List ℕ → Option Machine
machine_in name uptime = machine_of (boot_in name) (uptime_in uptime)

-- the life of a server that begins on this machine, at this moment of the server; and its first one
abbrev pub life_on : Machine → ℕ → Life
life_on machine moment = record { boot = machine.boot; uptime = machine.uptime; moment = record { 0 = moment } }

abbrev pub first_life : Machine → Life
first_life machine = life_on machine 0

-- What a host says names no machine, or it says nothing (`says` is which texts it may say, the name of its boot and for
-- how long it has been up, and `lacks` that it may say nothing).
abbrev pub NamesNone : (List ℕ → List ℕ → Type 0) → Type 0 → Type 0
NamesNone says lacks = lacks
    ⊎ ((name : List ℕ) × (uptime : List ℕ) × says name uptime × (machine_in name uptime ≡ None))

-- The machine of a host: the one that it names; or, where it names none, one whose boot is drawn, and which has been up
-- for no time (`draws` is which numbers may be drawn).
pub data IsMachineOf (says : List ℕ → List ℕ → Type 0) (lacks : Type 0) (draws : ℕ → Type 0) (machine : Machine)
    : Type 0 where
  named : (name uptime : List ℕ) → says name uptime → machine_in name uptime ≡ Some machine
      → IsMachineOf says lacks draws machine
  unnamed : (high low : ℕ) → NamesNone says lacks → draws high → draws low
      → machine ≡ record { boot = record { high = high; low = low }; uptime = 0 } → IsMachineOf says lacks draws machine
