-- Why a server doesn't go on from its journal.
use Rattle.std.specs.Prelude.{◌≡◌, ◌≤◌, ◌⊎◌, ◌-◌, ◌++◌, ⊤, ℕ, Bool, true, false, List, [], length}
use Rattle.coap_resource.specs.Base.{IsBase}
use Rattle.coap_resource.specs.declared.tally.TheConstants.{MAX_CHANGES_PER_WINDOW as max_changes}
use Rattle.coap_server.specs.Led.{Led, State}
use Rattle.coap_journal.specs.Frames.{frame}
use Rattle.coap_journal.specs.Records.{Begun, record_bytes}
use Rattle.coap_journal.specs.declared.beginning.BeginError.TheVariants as begin
use Rattle.coap_journal.specs.declared.beginning.Beginning.{Beginning}
use Rattle.coap_journal.specs.declared.beginning.Life.{Life}
use Rattle.coap_journal_file.specs.Judging.{IsBegun, IsFault, IsUnbegun, IsWhole}
use Rattle.coap_journal_file.specs.Wishes.{AgreesOn, Differs, DiffersOn}
use Rattle.coap_journal_file.specs.declared.judging.Began.{Began}
use Rattle.coap_journal_file.specs.declared.wishes.Differing.{Differing}
use Rattle.coap_journal_file.specs.declared.wishes.Wishes.{Wishes}
use Rattle.coap_kept.specs.Revival.{limits_of, setup_of}
use Rattle.coap_kept.specs.declared.keep_error.KeepError.{KeepError}
use Rattle.coap_kept.specs.declared.keep_error.KeepError.TheVariants as keep
use Rattle.coap_kept.specs.declared.keep_words.Keeping.{Keeping}
use Rattle.coap_kept.specs.declared.revival.RevivalError.{RevivalError}
use Rattle.coap_kept.specs.declared.revival.RevivalError.TheVariants as revival
use Rattle.coap_replay.specs.Refusing.{IsOfOther, IsUnreplayed, StopsAt}
use Rattle.coap_replay.specs.declared.replay.ReplayError.{ReplayError}
use Rattle.coap_replay.specs.declared.replay.ReplayError.TheVariants.{Memory, OtherServer, Unreadable}

-- a server can begin with these numbers
pub record CanBegin (b : Beginning) : Type 0 where
  pub base : IsBase b.base
  pub some : 1 ≤ b.configuration.changes
  pub most : b.configuration.changes ≤ max_changes

-- Why a server doesn't do what the bytes at this place hold. They are of another server. Or it stops at a frame that it
-- can't read, or they aren't whole frames. Of memory nothing is said.
abbrev pub IsNotDone : ℕ → List ℕ → State → ReplayError → Type 0
IsNotDone place bytes old Memory = ⊤
IsNotDone place bytes old Unreadable = IsUnreplayed place old bytes
IsNotDone place bytes old OtherServer = StopsAt IsOfOther place old bytes

-- the first frame of the bytes says that a server began so, and these follow
abbrev pub BeginsWith : List ℕ → Beginning → List ℕ → Type 0
BeginsWith bytes beginning rest = (born : Life) × (bytes ≡ frame 0 (record_bytes (Begun beginning born)) ++ rest)

-- Why no server is made of the bytes. None began; or none can begin with the numbers of the first frame. Or the words
-- say otherwise how it began. Or the server that began can't do what the other frames hold.
abbrev pub IsUnrevived : List ℕ → Wishes → RevivalError → Type 0
IsUnrevived bytes wishes (revival.Unbegun why) = IsUnbegun bytes why ⊎ ((why ≡ begin.Unreadable)
    × (beginning : Beginning) × (rest : List ℕ) × BeginsWith bytes beginning rest × (CanBegin beginning → ⊥))
IsUnrevived bytes wishes (revival.Differs differing) =
    (beginning : Beginning) × (rest : List ℕ) × BeginsWith bytes beginning rest × DiffersOn wishes beginning differing
IsUnrevived bytes wishes (revival.Unreplayed why) = (beginning : Beginning) × (rest : List ℕ) × (first : State)
    × BeginsWith bytes beginning rest × AgreesOn wishes beginning
    × Led (limits_of beginning) beginning.configuration.szx (setup_of beginning) [] first
    × IsNotDone (length bytes - length rest) rest first why

-- The words say this otherwise of how a server began. Of the inputs that it took first they say nothing, where it is to
-- be begun anew.
abbrev pub IsOtherwise : (renews : Bool) → Wishes → Began → Differing → Type 0
IsOtherwise false wishes began differing = Differs wishes began differing
IsOtherwise true wishes began differing = DiffersOn wishes began.beginning differing

-- Why a file is left as it is. It is damaged, or no server began in it; or one began otherwise than the words say.
abbrev pub IsRefused : Keeping → List ℕ → KeepError → Type 0
IsRefused keeping bytes (keep.File fault) = IsFault bytes fault
IsRefused keeping bytes (keep.Differs differing) = (began : Began) × IsBegun bytes began.beginning began.setup
    × IsWhole bytes began.whole × IsOtherwise keeping.renews keeping.wishes began differing
IsRefused keeping bytes (keep.Open why) = ⊥
IsRefused keeping bytes (keep.Frame why) = ⊥
IsRefused keeping bytes (keep.Revival why) = ⊥
IsRefused keeping bytes keep.Unheld = ⊥
IsRefused keeping bytes (keep.Io why) = ⊥
IsRefused keeping bytes keep.Memory = ⊥
