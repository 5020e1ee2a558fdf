-- Records that are done: the inputs and the outputs of an end, in order.
use Rattle.std.specs.Prelude.{◌≡◌, ℕ, List, [], ◌∷◌, ◌++◌, length, map}
use Rattle.coap_journal.specs.Input.{Input}
use Rattle.coap_journal.specs.Records.{Begun, Record, Turn, Woke, record_bytes}

-- what frames have in them
abbrev pub bodies : List Record → List (List ℕ)
bodies records = map record_bytes records

-- `S` is what an end is in, and `P` what it gives out; `taking` and `giving` are what one input and one output make
-- of it
module _ {S P : Type 0} (taking : S → Input → S → Type 0) (giving : S → P → S → Type 0) where
  -- these inputs are taken, in order
  abbrev pub TakesAll : S → List Input → S → Type 0
  TakesAll old [] new = new ≡ old
  TakesAll old (input ∷ inputs) new = (between : S) × taking old input between × TakesAll between inputs new

  -- these are given out, in order
  abbrev pub GivesOut : S → List P → S → Type 0
  GivesOut old [] new = new ≡ old
  GivesOut old (p ∷ ps) new = (between : S) × giving old p between × GivesOut between ps new

  -- a turn: so many are given out, and then these inputs are taken
  pub record Turned (old : S) (taken : ℕ) (inputs : List Input) (out : List P) (new : S) : Type 0 where
    pub between : S
    pub gives : GivesOut old out between
    pub counted : length out ≡ taken
    pub takes : TakesAll between inputs new

  -- What a record does, and what is given out in it: a further life does nothing, and no end begins again.
  abbrev pub Does : S → Record → List P → S → Type 0
  Does old (Begun beginning life) out new = ⊥
  Does old (Woke life) out new = (out ≡ []) × (new ≡ old)
  Does old (Turn moment taken inputs) out new = Turned old taken inputs out new

  -- records, in order
  abbrev pub Replays : S → List Record → List P → S → Type 0
  Replays old [] out new = (out ≡ []) × (new ≡ old)
  Replays old (done ∷ records) out new =
      (between : S) × (first : List P) × (more : List P) × Does old done first between
      × (out ≡ first ++ more) × Replays between records more new
