-- Which notifications go in a NON (RFC 7641, sections 4.3 and 4.5; that a path is plain, and how old its state may be,
-- is a profile).
use Rattle.std.specs.Prelude.{ℕ, ◌-◌, nat_le, nat_lt, Bool, true, false, not, ◌&&◌, ◌||◌, Option, Some, None, List, []}
use Rattle.std.specs.Prelude.{◌∷◌, ◌++◌, length, if◌then◌else◌}
use Rattle.std.specs.List.{list_any}
use Rattle.coap_types.specs.Path.{same_path}
use Rattle.coap_observe.specs.Observers.{Observer}
use Rattle.coap_resource.specs.Content.{Held}
use Rattle.coap_server.specs.Trace.{Own}
use Rattle.coap_server.specs.declared.limits.TheConstants.{CON_NOTIFICATION_MS as con_notification}
use Rattle.coap_server.specs.declared.limits.TheConstants.{MAX_PLAINS as max_plains, MAX_PLAIN_AGE_MS as max_plain_age}

-- the plain paths, whose observers are told by NON (that there are at most so many is a profile)

abbrev pub is_plain : List (List ℕ) → List (List (List ℕ)) → Bool
is_plain path ps = list_any (λ p. same_path p path) ps

abbrev pub may_be_plain : List (List ℕ) → List (List (List ℕ)) → Bool
may_be_plain path ps = is_plain path ps || nat_lt (length ps) max_plains

abbrev pub plains_with : List (List ℕ) → Bool → List (List (List ℕ)) → List (List (List ℕ))
plains_with path true ps = if is_plain path ps then ps else ps ++ path ∷ []
plains_with path false ps = ps

-- A CON is wanted where the last one to the observer was sent a day ago (RFC 7641, section 4.5), or the state is old.
abbrev pub must_confirm : ℕ → Observer → Bool
must_confirm at o = nat_le con_notification (at - o.con) || nat_lt max_plain_age (at - o.changed)

-- A notification is a NON where the path is plain and holds something, and no CON is wanted.
abbrev pub goes_plain : List (List (List ℕ)) → ℕ → Option Held → Observer → Bool
goes_plain ps at None o = false
goes_plain ps at (Some held) o = is_plain o.path ps && not (must_confirm at o)

abbrev pub by_plain : Own → Observer → Bool
by_plain s o = goes_plain s.plains s.clock (s.store.holds o.path) o
