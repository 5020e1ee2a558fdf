-- What words say of how a server began.
use Rattle.std.specs.Prelude.{◌≡◌, ◌≤◌, ◌⊎◌, ⊤, ℕ, List, Option, Some, None}
use Rattle.std.specs.Borrow.{Bor}
use Rattle.coap_journal.specs.declared.beginning.Beginning.{Beginning}
use Rattle.coap_journal_file.specs.declared.judging.Began.{Began}
use Rattle.coap_journal_file.specs.declared.wishes.Differing.{Differing}
use Rattle.coap_journal_file.specs.declared.wishes.Differing.TheVariants.{Limit, Remembered, Setup, Word}
use Rattle.coap_journal_file.specs.declared.wishes.Wishes.{Wishes}

-- nothing is wished for, or this number is
abbrev pub IsWished : Option ℕ → ℕ → Type 0
IsWished None n = ⊤
IsWished (Some wish) n = wish ≡ n

-- the inputs that were taken first are these
abbrev pub IsTakenFirst : Option (Bor (List ℕ)) → List ℕ → Type 0
IsTakenFirst None inputs = ⊥
IsTakenFirst (Some first) inputs = first.now ≡ inputs

-- nothing is wished for; or no input was taken yet, or just those that are wished for were taken first
abbrev pub IsWishedSetup : Option (Bor (List ℕ)) → Began → Type 0
IsWishedSetup None began = ⊤
IsWishedSetup (Some inputs) began = (began.whole.frames ≤ 1) ⊎ IsTakenFirst began.setup inputs.now

-- each number that the words say is the one that it began with
pub record AgreesOn (wishes : Wishes) (beginning : Beginning) : Type 0 where
  pub word : IsWished wishes.word beginning.seed.word
  pub limit : IsWished wishes.limit beginning.configuration.limit
  pub remembered : IsWished wishes.remembered beginning.configuration.remembered

-- the words say this otherwise; of a number the one that it began with is told
abbrev pub DiffersOn : Wishes → Beginning → Differing → Type 0
DiffersOn wishes beginning Word = IsWished wishes.word beginning.seed.word → ⊥
DiffersOn wishes beginning (Limit n) = (IsWished wishes.limit beginning.configuration.limit → ⊥)
    × (n ≡ beginning.configuration.limit)
DiffersOn wishes beginning (Remembered n) = (IsWished wishes.remembered beginning.configuration.remembered → ⊥)
    × (n ≡ beginning.configuration.remembered)
DiffersOn wishes beginning Setup = ⊥

abbrev pub Differs : Wishes → Began → Differing → Type 0
Differs wishes began Word = DiffersOn wishes began.beginning Word
Differs wishes began (Limit n) = DiffersOn wishes began.beginning (Limit n)
Differs wishes began (Remembered n) = DiffersOn wishes began.beginning (Remembered n)
Differs wishes began Setup = IsWishedSetup wishes.setup began → ⊥
