-- What a source of Message IDs keeps of its calls.
use Rattle.std.specs.Prelude.{◌≡◌, ℕ, ◌<◌, max, Bool, Option, Some, None, List, map, slice_get}
use Rattle.std.specs.Option.{option_map}
use Rattle.coap_types.specs.declared.endpoint.Moment.{Moment}
use Rattle.coap_types.specs.declared.message.Id.{Id}
use Rattle.coap_layer.specs.Ids.{Issued, IdEntry, Next, IsFree, Ids, clock, numbers, upcoming, last_use}
use Rattle.coap_layer.specs.declared.message_id.TheConstants.{GROUPS as groups}

-- the latest moment, the number that comes next, and when each group was last used
pub record IdState : Type 0 where
  pub clock : ℕ
  pub upcoming : ℕ
  pub last_used : List (Option ℕ)

-- each group's last use stands in its place
abbrev pub AreUses : List Issued → List (Option ℕ) → Type 0
AreUses past uses = (group : ℕ) → group < groups → slice_get uses group ≡ Some (last_use past group)

pub record Keeps (word : ℕ) (t : List IdEntry) (s : IdState) : Type 0 where
  pub clock : s.clock ≡ clock t
  pub upcoming : s.upcoming ≡ upcoming word (numbers t)
  pub last_used : AreUses (numbers t) s.last_used

-- these calls of a source that began with this word can leave it so
pub record Led (word : ℕ) (t : List IdEntry) (s : IdState) : Type 0 where
  pub law : Ids word t
  pub kept : Keeps word t s

abbrev pub number_in : Option Id → Option ℕ
number_in None = None
number_in (Some id) = Some id.0

-- the entries that the calls add
abbrev pub next_entry : List IdEntry → ℕ → Option Id → IdEntry
next_entry t now answer = record { at = max (clock t) now; call = Next (number_in answer) }

abbrev pub free_entry : List IdEntry → ℕ → Bool → IdEntry
free_entry t now answer = record { at = max (clock t) now; call = IsFree answer }

-- when groups were last used, as a source keeps it
abbrev pub use_of : Option Moment → Option ℕ
use_of last = option_map (λ (m : Moment). m.0) last

abbrev pub uses_of : List (Option Moment) → List (Option ℕ)
uses_of uses = map use_of uses
