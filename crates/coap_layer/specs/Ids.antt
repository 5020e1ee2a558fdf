-- Which Message IDs a source gives (RFC 7252, section 4.4), over whole lists of its calls. Profile: GROUPS groups of
-- GROUP_SIZE numbers, each group used again only after ID_REUSE_AFTER_MS.
use Rattle.std.specs.Prelude.{◌≡◌, ℕ, ◌+◌, ◌*◌, ◌/◌, ◌%◌, ◌<◌, ◌≤◌, ◌==◌, Bool, true, false, Option, Some, None, List}
use Rattle.std.specs.Prelude.{[], ◌∷◌, if◌then◌else◌}
use Rattle.coap_types.specs.Past.{Always, Ever, all_of}
use Rattle.coap_types.specs.declared.transmission.TheConstants.{ID_REUSE_AFTER_MS as id_reuse_after}
use Rattle.coap_layer.specs.declared.message_id.TheConstants.{GROUP_SIZE as group_size, GROUPS as groups}
use Rattle.coap_types.specs.declared.message.TheConstants.{MESSAGE_IDS as message_ids}

-- a number that was issued, and when
pub record Issued : Type 0 where
  pub at : ℕ
  pub id : ℕ

-- the number that comes next in order; at first, the first of the group that the word picks
abbrev pub upcoming : ℕ → List Issued → ℕ
upcoming word [] = word % groups * group_size
upcoming word (g ∷ past) = (g.id + 1) % message_ids

-- when a number of the group was last issued
abbrev pub last_use : List Issued → ℕ → Option ℕ
last_use [] group = None
last_use (g ∷ past) group = if g.id / group_size == group then Some g.at else last_use past group

-- never used, or last used more than ID_REUSE_AFTER_MS before
abbrev pub IsRested : Option ℕ → ℕ → Type 0
IsRested None now = Unit {0}
IsRested (Some last) now = last + id_reuse_after < now

-- last used at most ID_REUSE_AFTER_MS before
abbrev pub IsHeld : Option ℕ → ℕ → Type 0
IsHeld None now = ⊥
IsHeld (Some last) now = now ≤ last + id_reuse_after

-- a number may be given: the group goes on, or the next group may be entered
abbrev pub MayGive : ℕ → List Issued → ℕ → Type 0
MayGive word past now =
    upcoming word past % group_size ≡ 0 → IsRested (last_use past (upcoming word past / group_size)) now

-- none may be given: the group is spent, and the next one is held
pub record Withholds (word : ℕ) (past : List Issued) (now : ℕ) : Type 0 where
  pub spent : upcoming word past % group_size ≡ 0
  pub held : IsHeld (last_use past (upcoming word past / group_size)) now

-- the number is the next one, given when it may be
pub record Gives (word : ℕ) (past : List Issued) (now id : ℕ) : Type 0 where
  pub next : id ≡ upcoming word past
  pub may : MayGive word past now

-- the moment of the number issued last
abbrev pub latest : List Issued → ℕ
latest [] = 0
latest (g ∷ past) = g.at

-- the law of the numbers: moments don't fall, and each number is the next one, given when it may be
pub record IsIssued (word : ℕ) (past : List Issued) (g : Issued) : Type 0 where
  pub time : latest past ≤ g.at
  pub right : Gives word past g.at g.id

abbrev pub NumbersLaw : ℕ → List Issued → Type 0
NumbersLaw word = Always (IsIssued word)

-- equal numbers are more than ID_REUSE_AFTER_MS apart
abbrev pub AreApart : List Issued → Type 0
AreApart = Always (λ past g. Ever (λ (h : Issued). (h.id ≡ g.id) × (g.at ≤ h.at + id_reuse_after)) past → ⊥)

-- the calls of a source, each with its answer
pub data IdCall : Type 0 where
  Next : (answer : Option ℕ) → IdCall
  IsFree : (answer : Bool) → IdCall

-- a call, at the moment that counts: a moment before the last one counts as the last
pub record IdEntry : Type 0 where
  pub at : ℕ
  pub call : IdCall

abbrev pub clock : List IdEntry → ℕ
clock [] = 0
clock (e ∷ past) = e.at

-- the number that the call issues
abbrev pub issued_in : ℕ → IdCall → List Issued
issued_in at (Next (Some id)) = record { at = at; id = id } ∷ []
issued_in at _ = []

abbrev pub issued : IdEntry → List Issued
issued e = issued_in e.at e.call

abbrev pub numbers : List IdEntry → List Issued
numbers = all_of issued

-- the rows: what each call answers, and when
abbrev pub IdRow : ℕ → List Issued → ℕ → IdCall → Type 0
IdRow word past at (Next (Some id)) = Gives word past at id
IdRow word past at (Next None) = Withholds word past at
IdRow word past at (IsFree true) = MayGive word past at
IdRow word past at (IsFree false) = Withholds word past at

pub record IdStands (word : ℕ) (past : List IdEntry) (e : IdEntry) : Type 0 where
  pub time : clock past ≤ e.at
  pub row : IdRow word (numbers past) e.at e.call

-- the law of a source that began with this word
abbrev pub Ids : ℕ → List IdEntry → Type 0
Ids word = Always (IdStands word)

-- one call has one answer
abbrev pub IdsAreExact : Type 0
IdsAreExact =
    (word : ℕ) (past : List IdEntry) (e f : IdEntry) (a b : Option ℕ) → IdStands word past e → IdStands word past f
    → e.at ≡ f.at → e.call ≡ Next a → f.call ≡ Next b → a ≡ b
