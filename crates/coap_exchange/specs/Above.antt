-- An object above another: what its calls add up to, what they ask of the one beneath, that each has its row; and how
-- it comes from one state to the next.
use Rattle.std.specs.Prelude.{◌≡◌, List, [], ◌∷◌, ◌++◌}
use Rattle.coap_types.specs.Past.{Always}

module _ {Own Call : Type 0} (start : Own) (after : Own → Call → Own) where
  -- what the calls add up to
  abbrev pub sum_of : List Call → Own
  sum_of [] = start
  sum_of (c ∷ past) = after (sum_of past) c

  -- what they ask of the object beneath, one behind the other: nothing is added or left out
  abbrev pub asked_by : {Below : Type 0} → (Own → Call → List Below) → List Call → List Below
  asked_by lower [] = []
  asked_by lower (c ∷ past) = lower (sum_of past) c ++ asked_by lower past

  -- each call has its row
  abbrev pub Rows : (Own → Call → Type 0) → List Call → Type 0
  Rows right trace = Always (λ past c. right (sum_of past) c) trace

-- what is kept: by the object itself, and by its layer
pub record State (Own Layer : Type 0) : Type 0 where
  pub own : Own
  pub layer : Layer

module _ {Own Call Below Layer : Type 0} (IsRight : Own → Call → Type 0) (after : Own → Call → Own)
    (lower : Own → Call → List Below) (Steps : Layer → List Below → Layer → Type 0) where
  -- one call
  pub record Step (old : State Own Layer) (c : Call) (new : State Own Layer) : Type 0 where
    pub right : IsRight old.own c
    pub own_is : new.own ≡ after old.own c
    pub under : Steps old.layer (lower old.own c) new.layer

  -- several calls, the newest first: each is a step
  abbrev pub Chain : State Own Layer → List Call → State Own Layer → Type 0
  Chain old [] new = new ≡ old
  Chain old (c ∷ earlier) new = (between : State Own Layer) × Chain old earlier between × Step between c new

  module _ (start : Own) (fresh : Layer) where
    -- The law: each call has its row, and an object beneath that began fresh answered what was asked of it, step by
    -- step.
    pub record Law (trace : List Call) : Type 0 where
      pub rows : Rows start after IsRight trace
      pub left : Layer
      pub layer : Steps fresh (asked_by start after lower trace) left

    -- these calls can leave it so
    pub record Led (trace : List Call) (s : State Own Layer) : Type 0 where
      pub rows : Rows start after IsRight trace
      pub own_is : s.own ≡ sum_of start after trace
      pub layer : Steps fresh (asked_by start after lower trace) s.layer
