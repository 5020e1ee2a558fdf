-- The steps of a Block1 transfer at the client (RFC 7959, section 2.5).
use Rattle.std.specs.Prelude.{◌≡◌, ◌↔◌, ◌&&◌, ◌||◌, ◌==◌, IsTrue, ℕ, Bool, true, nat_lt, nat_le, ◌+◌, ◌/◌, ◌<◌, ◌≤◌}
use Rattle.std.specs.Prelude.{◌⊎◌, List, length, Option, Some, None}
use Rattle.coap_types.specs.declared.block.Block.{Block}
use Rattle.coap_types.specs.declared.block.TheConstants.{MAX_NUM as max_num}
use Rattle.coap_block.specs.declared.upload.Place.{Place}
use Rattle.coap_types.specs.Piece.{size_of, offset_of, Begins}

-- the body, and the number and the size of the block to send
pub record UploadState : Type 0 where
  pub body : List ℕ
  pub num : ℕ
  pub szx : ℕ

abbrev pub upload_start : List ℕ → ℕ → UploadState
upload_start body szx = record { body = body; num = 0; szx = szx }

-- more of the body follows the block to send
abbrev pub more_follows : UploadState → Bool
more_follows s = nat_lt (offset_of s.num s.szx + size_of s.szx) (length s.body)

abbrev pub block_to_send : UploadState → Block
block_to_send s = record { num = s.num; more = more_follows s; szx = s.szx }

-- the next block begins where this one ends, in the size that was answered
abbrev pub number_after : UploadState → ℕ → ℕ
number_after s szx = (offset_of s.num s.szx + size_of s.szx) / size_of szx

-- the same size, or a smaller one that is answered to the first block
abbrev pub KeepsSize : UploadState → ℕ → Type 0
KeepsSize s szx = (szx ≡ s.szx) ⊎ ((s.num ≡ 0) × (szx < s.szx))

-- The Block1 of a 2.31 lets the next block be sent: the block to send says that more follows, the
-- answer has its number, M 1 and its size or at block 0 a smaller one, and the next block has a number.
abbrev pub Continues : UploadState → Block → Type 0
Continues s answer =
    (more_follows s ≡ true) × (answer.num ≡ s.num) × (answer.more ≡ true) × KeepsSize s answer.szx
    × (number_after s answer.szx ≤ max_num)

-- the same as tests
abbrev pub keeps_size : UploadState → ℕ → Bool
keeps_size s szx = (szx == s.szx) || ((s.num == 0) && nat_lt szx s.szx)

abbrev pub continues : UploadState → Block → Bool
continues s answer =
    more_follows s && ((answer.num == s.num) && (answer.more
    && (keeps_size s answer.szx && nat_le (number_after s answer.szx) max_num)))

abbrev pub ContinuesIsTested : Type 0
ContinuesIsTested = (s : UploadState) (answer : Block) → IsTrue (continues s answer) ↔ Continues s answer

abbrev pub moved : UploadState → Block → UploadState
moved s answer = record s { num = number_after s answer.szx; szx = answer.szx }

-- what callers see of an upload
pub record UploadValue : Type 0 where
  pub state : UploadState
  pub before : Option UploadState

abbrev pub at_place : List ℕ → Place → UploadState
at_place body p = record { body = body; num = p.num; szx = p.szx }

abbrev pub before_at : List ℕ → Option Place → Option UploadState
before_at body None = None
before_at body (Some p) = Some (at_place body p)

-- a block of the body, and a number that can be written
abbrev pub IsPlaceIn : List ℕ → Place → Type 0
IsPlaceIn body p = Begins body p.num p.szx × (p.num ≤ max_num)

abbrev pub IsPlaceBefore : List ℕ → Option Place → Type 0
IsPlaceBefore body None = Unit {0}
IsPlaceBefore body (Some p) = IsPlaceIn body p
