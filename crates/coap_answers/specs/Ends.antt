-- With what the ends begin that the programs run, where bodies have at most so many bytes.
use Rattle.std.specs.Prelude.{ℕ}
use Rattle.coap_resource.specs.Limits.{Limits, sized_limits}
use Rattle.coap_resource.specs.declared.tally.TheConstants.{MAX_CHANGES_PER_WINDOW as max_changes}

-- a server: as many changes a window as there can be
abbrev pub server_limits : ℕ → Limits
server_limits limit = sized_limits max_changes limit

-- .. whose versions begin after this one
abbrev pub server_limits_after : (limit base : ℕ) → Limits
server_limits_after limit base = record { changes = max_changes; body = limit; base = base }
