-- How long a program waits.
use Rattle.std.specs.Prelude.{◌≤◌, ◌-◌, ◌*◌, ℕ, Bool, Option, None, Some, nat_lt, if◌then◌else◌, false}
use Rattle.coap_wires.specs.declared.patience.TheConstants.{LONG_WAIT as long_wait}
use Rattle.coap_wires.specs.declared.patience.TheConstants.{MAX_TRANSMIT_WAIT as max_transmit_wait}
use Rattle.coap_wires.specs.declared.waiting.TheConstants.{MS_PER_SECOND as ms_per_second}

-- at that moment, the second one, so many seconds have passed since this one
abbrev pub HasPassed : ℕ → ℕ → ℕ → Type 0
HasPassed seconds begin now = seconds * ms_per_second ≤ now - begin

-- what has lasted for so many milliseconds has lasted for so many seconds
abbrev pub HasLasted : Option ℕ → ℕ → Type 0
HasLasted None elapsed = ⊥
HasLasted (Some seconds) elapsed = seconds * ms_per_second ≤ elapsed

-- after how many seconds a request is given up at the latest, to which nothing comes: MAX_TRANSMIT_WAIT (RFC 7252,
-- section 4.8.2), or fewer, where so many were chosen
abbrev pub latest_end : Option ℕ → ℕ
latest_end None = max_transmit_wait
latest_end (Some seconds) = if nat_lt seconds max_transmit_wait then seconds else max_transmit_wait

-- a long wait is told of where that is wanted, and where the wait may be so long
abbrev pub tells_of_wait : Bool → Option ℕ → Bool
tells_of_wait is_wanted give_up = if is_wanted then nat_lt long_wait (latest_end give_up) else false
