-- What stands in the file of a journal.
use Rattle.std.specs.Prelude.{◌≡◌, ◌⊎◌, ◌<◌, ◌+◌, ◌^◌, ℕ, List, [], ◌∷◌, ◌++◌, Option, Some, None, length, min, take}
use Rattle.std.specs.Borrow.{Bor}
use Rattle.coap_journal.specs.Frames.{BeginsFrame, IsDamage, around, frame}
use Rattle.coap_journal.specs.Numbers.{number}
use Rattle.coap_journal.specs.Records.{FirstIsUnread, record_bytes}
use Rattle.coap_journal.specs.Records as records
use Rattle.coap_journal.specs.Whole.{IsWholeTo}
use Rattle.coap_journal.specs.declared.beginning.BeginError.{BeginError}
use Rattle.coap_journal.specs.declared.beginning.BeginError.TheVariants as begin
use Rattle.coap_journal.specs.declared.beginning.Beginning.{Beginning}
use Rattle.coap_journal.specs.declared.beginning.Life.{Life}
use Rattle.coap_journal.specs.declared.wholeness.Whole.{Whole}
use Rattle.coap_journal_file.specs.declared.judging.FileError.{FileError}
use Rattle.coap_journal_file.specs.declared.judging.FileError.TheVariants.{Damaged, Unbegun}
use Rattle.coap_journal_file.specs.declared.judging.Judged.{Judged}
use Rattle.coap_journal_file.specs.declared.judging.Judged.TheVariants.{Begun, Empty}

-- how many bytes the frame of a beginning holds, as its first four bytes say
abbrev pub begun_front : List ℕ
begun_front = 0 ∷ 0 ∷ 0 ∷ 89 ∷ []

-- the same bytes, as far as both go
abbrev pub AreAlike : List ℕ → Type 0
AreAlike bytes = take (min (length bytes) 4) bytes ≡ take (min (length bytes) 4) begun_front

-- no more than the front of such a frame
abbrev pub IsTornBeginning : List ℕ → Type 0
IsTornBeginning bytes = (length bytes < 109) × AreAlike bytes

-- a frame holds a turn with these inputs
abbrev pub IsTurn : List ℕ → List ℕ → Type 0
IsTurn body inputs = (moment : ℕ) × (taken : ℕ) × (body ≡ 9 ∷ (number moment ++ (number taken ++ inputs)))

-- the first frame at this place is a turn with these inputs, or there is none that is a turn
abbrev pub IsSetup : ℕ → List ℕ → Option (Bor (List ℕ)) → Type 0
IsSetup place bytes (Some inputs) =
    (body : List ℕ) × (rest : List ℕ) × (bytes ≡ frame place body ++ rest) × IsTurn body inputs.now
IsSetup place bytes None =
    (body rest inputs : List ℕ) → length body < 2 ^ 32 → bytes ≡ frame place body ++ rest → IsTurn body inputs → ⊥

-- the first frame says that the server began so, and the second one which inputs it took first
abbrev pub IsBegun : List ℕ → Beginning → Option (Bor (List ℕ)) → Type 0
IsBegun bytes beginning setup = (life : Life) × (rest : List ℕ)
    × (bytes ≡ frame 0 (record_bytes (records.Begun beginning life)) ++ rest)
    × IsSetup (around + length (record_bytes (records.Begun beginning life))) rest setup

-- no server began: no whole frame stands in front, or what it holds isn't read
abbrev pub IsUnbegun : List ℕ → BeginError → Type 0
IsUnbegun bytes why = ((BeginsFrame 0 bytes → ⊥) × (why ≡ begin.Unreadable)) ⊎ FirstIsUnread bytes why

-- so much of the bytes is whole, and no damage follows it
abbrev pub IsWhole : List ℕ → Whole → Type 0
IsWhole bytes w = (tail : List ℕ) × IsWholeTo 0 bytes w.frames w.end tail × (w.torn ≡ length tail)
    × (IsDamage w.end tail → ⊥)

abbrev pub IsJudged : List ℕ → Judged → Type 0
IsJudged bytes Empty = IsTornBeginning bytes
IsJudged bytes (Begun began) = IsBegun bytes began.beginning began.setup × IsWhole bytes began.whole

-- frames stand after one that isn't whole, where those before it end; or no server began
abbrev pub IsFault : List ℕ → FileError → Type 0
IsFault bytes (Damaged damage) = (count : ℕ) × (tail : List ℕ) × IsWholeTo 0 bytes count damage.at tail
    × IsDamage damage.at tail
IsFault bytes (Unbegun why) = IsUnbegun bytes why
