-- How much a layer has at a moment, and how many Message IDs it has left (RFC 7252, sections 4.4 and 4.5).
use Rattle.std.specs.Prelude.{◌≡◌, ℕ, ◌+◌, ◌-◌, ◌*◌, ◌/◌, ◌%◌, max, Option, Some, List, [], ◌∷◌, ◌++◌, length, filter}
use Rattle.std.specs.Prelude.{drop, take, if◌then◌else◌}
use Rattle.coap_layer.specs.Machine.State.{State, is_free, is_live, is_rested}
use Rattle.coap_layer.specs.declared.load.LayerLoad.{LayerLoad}
use Rattle.coap_layer.specs.declared.message_id.TheConstants.{GROUP_SIZE as group_size}

-- the other groups, in the order in which they come after this one
abbrev pub others_from : ℕ → List (Option ℕ) → List (Option ℕ)
others_from group uses = drop (group + 1) uses ++ take group uses

-- how many of these groups can be entered one after the other: each of them rests
abbrev pub rested_first : ℕ → List (Option ℕ) → ℕ
rested_first now [] = 0
rested_first now (last ∷ uses) = if is_rested now (Some last) then 1 + rested_first now uses else 0

-- how many Message IDs can be given one after the other at this moment: those that are left of the group of the next
-- one, and those of the groups after it up to one that doesn't rest; none where the next one is not free
abbrev pub ids_left : ℕ → (upcoming : ℕ) → List (Option ℕ) → ℕ
ids_left now upcoming uses =
    if is_free now upcoming uses then
    group_size - upcoming % group_size
    + group_size * rested_first now (others_from (upcoming / group_size) uses)
    else 0

-- what is told of a layer at this moment: how long its lists are; what is no longer remembered is not counted
pub record IsLayerLoad (now : ℕ) (told : LayerLoad) (s : State) : Type 0 where
  pub remembered : told.remembered ≡ length (filter (is_live (max s.clock now)) s.arrived)
  pub remembered_most : told.remembered_most ≡ s.most
  pub outstanding : told.outstanding ≡ length s.open_cons
  pub queued : told.queued ≡ length s.queue
  pub ids_left : told.ids_left ≡ ids_left (max s.clock now) s.upcoming s.last_used
