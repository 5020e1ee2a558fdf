-- When a CON that is outstanding has its next step.
use Rattle.std.specs.Prelude.{ℕ, nat_le, Bool, false, Option, Some, None, List, ◌||◌}
use Rattle.std.specs.List.{list_any}
use Rattle.coap_layer.specs.Words.{Open}
use Rattle.coap_layer.specs.Machine.State.{is_copy_due, is_failed}

-- the wait is over, so long after the first sending
abbrev pub comes : Option ℕ → ℕ → Bool
comes (Some wait) elapsed = nat_le wait elapsed
comes None elapsed = false

-- it fails, or a copy of it is due
abbrev pub has_step : ℕ → Open → Bool
has_step now c = is_failed now c || is_copy_due now c

-- one of them does
abbrev pub any_has_step : ℕ → List Open → Bool
any_has_step now cs = list_any (has_step now) cs
