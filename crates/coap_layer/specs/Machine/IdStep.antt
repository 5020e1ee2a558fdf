-- The exact step of a source of Message IDs, by what it keeps.
use Rattle.std.specs.Prelude.{◌≡◌, ℕ, ◌+◌, ◌/◌, ◌%◌, max, Bool, Option, Some, None, slice_set, if◌then◌else◌}
use Rattle.coap_types.specs.declared.message.Id.{Id}
use Rattle.coap_layer.specs.Machine.IdState.{IdState, number_in}
use Rattle.coap_layer.specs.Machine.State.{is_free}
use Rattle.coap_layer.specs.declared.message_id.TheConstants.{GROUP_SIZE as group_size}
use Rattle.coap_types.specs.declared.message.TheConstants.{MESSAGE_IDS as message_ids}

-- whether a number may be given
abbrev pub may_now : IdState → ℕ → Bool
may_now s now = is_free (max s.clock now) s.upcoming s.last_used

-- asked whether one is free, a source moves its clock alone
pub record Asks (old : IdState) (now : ℕ) (answer : Bool) (new : IdState) : Type 0 where
  pub answer_is : answer ≡ may_now old now
  pub new_is : new ≡ record old { clock = max old.clock now }

-- the next number, where one may be given
pub record Draws (old : IdState) (now : ℕ) (answer : Option Id) (new : IdState) : Type 0 where
  pub answer_is : number_in answer ≡ (if may_now old now then Some old.upcoming else None)
  pub clock : new.clock ≡ max old.clock now
  pub upcoming : new.upcoming ≡ (if may_now old now then (old.upcoming + 1) % message_ids else old.upcoming)
  pub last_used : new.last_used ≡ (if may_now old now then
      slice_set old.last_used (old.upcoming / group_size) (Some (max old.clock now))
      else old.last_used)
