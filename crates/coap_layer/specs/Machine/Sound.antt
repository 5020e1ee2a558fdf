-- What is true of the parts of a layer.
use Rattle.std.specs.Prelude.{◌≡◌, ◌≤◌, ◌<◌, ℕ, Bool, true, false, Option, Some, None, List, vec_len, vec_capacity}
use Rattle.std.specs.VecDeque.{deque_len, deque_capacity}
use Rattle.coap_layer.specs.declared.lists.Lists.{Lists}
use Rattle.coap_layer.specs.declared.mark.Mark.{Mark}
use Rattle.coap_layer.specs.declared.room.Room.{Room}
use Rattle.coap_layer.specs.Machine.Entries.{IsUpTo, Memory, arrivals_in}
use Rattle.coap_layer.specs.Machine.State.{Arrived, is_remembered}
use Rattle.coap_layer.specs.Words.{Awaited}
use Rattle.coap_types.specs.declared.limits.TheConstants.{MAX_MESSAGE_LEN as max_message_len}

-- what the last input found is still there, and none that is settled arrived later than that found
abbrev pub IsWithin : Option Mark → List Arrived → ℕ → Type 0
IsWithin None es queued = Unit {0}
IsWithin (Some m) es queued = (m.queued ≤ queued) × IsUpTo m.clock.0 es

-- each buffer has room for a message of the greatest length
abbrev pub HasBuffers : {Z : Type 0} → Room Z → Type 0
HasBuffers r = (max_message_len ≤ vec_capacity r.sent) × (max_message_len ≤ vec_capacity r.kept)

-- .. and there is a place for it among what is outstanding, and among what waits
abbrev pub IsReady : {Z X Y : Type 0} → Room Z → Lists Z X Y → Type 0
IsReady r lists =
    HasBuffers r × (vec_len lists.sendings < vec_capacity lists.sendings)
    × (deque_len lists.waiting < deque_capacity lists.waiting)

-- where room is made, it is there
abbrev pub HasRoom : {Z X Y : Type 0} → Room Z → Lists Z X Y → Type 0
HasRoom r lists = r.is_made ≡ true → IsReady r lists

-- no settled message is the one that a reply may be given to
abbrev pub IsUnknown : ℕ → Option Awaited → (replies : Bool) → List Arrived → Type 0
IsUnknown now (Some w) true es = is_remembered now w.from w.id es ≡ false
IsUnknown now _ _ es = Unit {0}

-- .. and none arrived later than now
abbrev pub IsKept : ℕ → Option Awaited → (replies : Bool) → Memory → Type 0
IsKept now w replies m = IsUpTo now (arrivals_in m) × IsUnknown now w replies m.settled
