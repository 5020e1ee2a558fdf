-- How the file of a journal begins, and what is whole of it.
use Rattle.std.specs.Prelude.{◌≡◌, ◌⊎◌, ◌≤◌, ◌+◌, ◌^◌, ℕ, List, ◌++◌, length}
use Rattle.coap_journal.specs.Frames.{BeginsFrame, IsDamage, frame}
use Rattle.coap_journal.specs.Records.{Begun, FirstIsUnread, record_bytes}
use Rattle.coap_journal.specs.Whole.{AreFrames, IsWholeTo}
use Rattle.coap_journal.specs.declared.beginning.BeginError.TheVariants as begin
use Rattle.coap_journal.specs.declared.beginning.Beginning.{Beginning}
use Rattle.coap_journal.specs.declared.beginning.Life.{Life}
use Rattle.coap_noted.specs.declared.opening.OpenError.{OpenError}
use Rattle.coap_noted.specs.declared.opening.OpenError.TheVariants.{Damaged, NotBegun, OtherFormat, OtherLaw}
use Rattle.coap_noted.specs.declared.opening.OpenError.TheVariants.{Unreadable}

-- A file is the frame of a beginning and of a first life, further whole frames up to an end, and a torn rest.
pub record IsOpened (file : List ℕ) (beginning : Beginning) (first : Life) (place : ℕ) (further : List ℕ)
    (end torn : ℕ) : Type 0 where
  pub tail : List ℕ
  pub parts : file ≡ (frame 0 (record_bytes (Begun beginning first)) ++ further) ++ tail
  pub whole : AreFrames place further
  pub place_is : place + length further ≡ end
  pub end_is : end + length tail ≡ length file
  pub torn_is : torn ≡ length tail
  pub none : BeginsFrame end tail → ⊥
  pub undamaged : IsDamage end tail → ⊥

-- A file is whole frames up to this place, and damage follows.
pub record IsDamagedAt (file : List ℕ) (at : ℕ) : Type 0 where
  pub count : ℕ
  pub tail : List ℕ
  pub whole : IsWholeTo 0 file count at tail
  pub damage : IsDamage at tail

-- Why a file isn't opened: frames stand after one that isn't whole; none begins with it; its first frame isn't read; or
-- it is longer than any.
abbrev pub IsUnopened : List ℕ → OpenError → Type 0
IsUnopened file (Damaged at) = IsDamagedAt file at
IsUnopened file NotBegun = BeginsFrame 0 file → ⊥
IsUnopened file (OtherFormat n) = FirstIsUnread file (begin.OtherFormat n)
IsUnopened file (OtherLaw n) = FirstIsUnread file (begin.OtherLaw n)
IsUnopened file Unreadable = (2 ^ 62 ≤ length file) ⊎ FirstIsUnread file begin.Unreadable
