-- What a tick starts (RFC 7252, section 4.7).
use Rattle.std.specs.Prelude.{ℕ, Bool, false, not, ◌&&◌, List, [], ◌∷◌}
use Rattle.coap_client.specs.Own.{Operation, Own, clocked}
use Rattle.coap_client.specs.Effects.{Effect, stays, runs}
use Rattle.coap_client.specs.Events.{idle, is_held, is_upload_op, starts}
use Rattle.coap_client.specs.Observations.{to_fetch}

-- the first of what waits runs
abbrev pub first_runs : Own → List Operation → Effect
first_runs s [] = stays s
first_runs s (op ∷ queue) = runs op (record s { queue = queue })

-- something waits, and its first is not an upload that is held back
abbrev pub may_start : ℕ → Own → List Operation → Bool
may_start at s [] = false
may_start at s (op ∷ queue) = not (is_upload_op op && is_held s at)

-- where nothing was due at this moment

abbrev pub idle_now : ℕ → Own → Effect
idle_now at s = idle (clocked at s) at s.running (to_fetch s.observations)

abbrev pub starts_now : ℕ → Own → Effect
starts_now at s = starts (clocked at s) at s.queue
