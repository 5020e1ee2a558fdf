-- How often a store changes: moments fall into windows (of 256 s), and a window takes so many changes (RFC 7641,
-- section 4.4).
use Rattle.std.specs.Prelude.{ℕ, ◌+◌, ◌-◌, ◌^◌, ◌/◌, ◌==◌, max, min, nat_le, Option, Some, None, if◌then◌else◌}
use Rattle.coap_resource.specs.declared.refusal.StoreRefusal.{StoreRefusal}
use Rattle.coap_resource.specs.declared.refusal.StoreRefusal.TheVariants.{RateExceeded, VersionsSpent}
use Rattle.coap_resource.specs.Limits.{Limits}
use Rattle.coap_resource.specs.declared.tally.TheConstants.{WINDOW_MS as window_ms}

-- the changes of a store, as numbers
pub record Tally : Type 0 where
  -- the version of the last one; before the first the one after which the versions begin
  pub version : ℕ
  -- the last moment that counted, in ms
  pub clock : ℕ
  -- how many a window takes, the longest body that is held, and after which version the versions begin
  pub limits : Limits
  -- how many there were in the window of that moment
  pub changes : ℕ

-- no change yet, and no moment
abbrev pub unused : Limits → Tally
unused limits = record { version = limits.base; clock = 0; limits = limits; changes = 0 }

-- the window of a moment, by its number
abbrev pub window : ℕ → ℕ
window moment = moment / window_ms

-- the changes in the window of a moment; a moment before the last one counts as the last one
abbrev pub used : Tally → ℕ → ℕ
used t now = if window (max t.clock now) == window t.clock then t.changes else 0

-- why there is no further change: the window is full, or the version is the greatest of 64 bits
abbrev pub rate_refusal : Tally → ℕ → Option StoreRefusal
rate_refusal t now =
    if nat_le t.limits.changes (used t now) then Some RateExceeded
    else if nat_le (2 ^ 64 - 1) t.version then Some VersionsSpent
    else None

-- how many changes can be made one after the other at a moment: the window takes no more, and there are no more versions
abbrev pub changes_left : Tally → ℕ → ℕ
changes_left t now = min (t.limits.changes - used t now) (2 ^ 64 - 1 - t.version)

-- a moment that counts, and changes nothing
abbrev pub waited : Tally → ℕ → Tally
waited t now = record t { clock = max t.clock now; changes = used t now }

-- a change at a moment
abbrev pub counted : Tally → ℕ → Tally
counted t now = record t { version = t.version + 1; clock = max t.clock now; changes = used t now + 1 }
