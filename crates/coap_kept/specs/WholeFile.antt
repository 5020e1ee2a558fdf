-- The file of a journal, which is made whole: a torn frame is cut off, and what is not there yet is added.
use Rattle.std.specs.Prelude.{◌≡◌, ◌⊎◌, ◌++◌, ◌∷◌, ℕ, false, List, length, nat_le, nat_lt, take, if◌then◌else◌}
use Rattle.coap_journal.specs.Frames.{frame}
use Rattle.coap_journal.specs.Numbers.{number}
use Rattle.coap_journal.specs.declared.wholeness.Whole.{Whole}
use Rattle.coap_journal_file.specs.Judging.{IsBegun, IsTornBeginning, IsWhole}
use Rattle.coap_journal_file.specs.Wishes.{AgreesOn, IsWishedSetup}
use Rattle.coap_journal_file.specs.declared.judging.Began.{Began}
use Rattle.coap_kept.specs.Machines.{first_life}
use Rattle.coap_kept.specs.Renewal.{first_bytes}
use Rattle.coap_kept.specs.declared.keep_words.Keeping.{Keeping}
use Rattle.coap_kept.specs.declared.machine.Machine.{Machine}

-- a server began so, as the words say; one that isn't begun anew took the inputs first that they say
abbrev pub IsAgreed : Keeping → Began → Type 0
IsAgreed keeping began = AgreesOn keeping.wishes began.beginning
    × (keeping.renews ≡ false → IsWishedSetup keeping.wishes.setup began)

-- so it began in these bytes, of which so much is whole
abbrev pub IsBegunAsSaid : Keeping → List ℕ → Whole → Type 0
IsBegunAsSaid keeping bytes whole =
    (began : Began) × (began.whole ≡ whole) × IsBegun bytes began.beginning began.setup × IsAgreed keeping began

-- a torn frame is cut off
abbrev pub cut_off : Whole → List ℕ → List ℕ
cut_off whole bytes = if nat_lt 0 whole.torn then take whole.end bytes else bytes

-- behind the first frame stands that of the inputs that the server takes first
abbrev pub with_setup : List ℕ → List ℕ → List ℕ
with_setup bytes setup = bytes ++ frame (length bytes) (9 ∷ (number 0 ++ (number 0 ++ setup)))

abbrev pub completed : Whole → List ℕ → List ℕ → List ℕ
completed whole setup bytes = if nat_le whole.frames 1 then with_setup bytes setup else bytes

-- where no server began, one begins; one that began as the words say is made whole
abbrev pub IsMadeWhole : Keeping → Machine → List ℕ → List ℕ → Type 0
IsMadeWhole keeping machine old new =
    (IsTornBeginning old × (new ≡ first_bytes keeping.drawn (first_life machine) keeping.setup.now))
    ⊎ ((whole : Whole) × IsWhole old whole × IsBegunAsSaid keeping old whole
    × (new ≡ completed whole keeping.setup.now (cut_off whole old)))

-- Then the file was asked to be kept, as it was made, and to have its name kept. (`syncs` and `settles` are what it is
-- asked.)
abbrev pub IsMadeSafe : {F : Type 0} → (F → F → Type 0) → (F → List ℕ → F → Type 0) → List ℕ → F → Type 0
IsMadeSafe {F} syncs settles name new = (made : F) × (safe : F) × syncs made safe × settles safe name new

-- A frame was added to the file, which then was asked to be kept.
abbrev pub IsAddedSafely : {F : Type 0} → (F → List ℕ → F → Type 0) → (F → F → Type 0) → F → List ℕ → List ℕ → F
    → Type 0
IsAddedSafely {F} writes syncs old before after new =
    (added : List ℕ) × (between : F) × (after ≡ before ++ added) × writes old added between × syncs between new
