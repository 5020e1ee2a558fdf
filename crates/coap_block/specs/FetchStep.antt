-- What a client does with a part of a body that arrives (RFC 7959, section 2.4).
use Rattle.std.specs.Prelude.{ℕ, Bool, true, false, not, ◌&&◌, ◌||◌, ◌==◌, nat_lt, nat_le, ◌+◌, ◌/◌, min, List, []}
use Rattle.std.specs.Prelude.{◌++◌, Option, Some, None, is_some, if◌then◌else◌}
use Rattle.std.specs.Str.{bytes_eq}
use Rattle.coap_types.specs.declared.block.Block.{Block}
use Rattle.coap_block.specs.declared.fetch_progress.Asked.{Asked}
use Rattle.coap_block.specs.declared.fetch_step.FetchRefusal.TheVariants.{BadBlock, NoTag, TooLarge, Changed}
use Rattle.coap_block.specs.declared.fetch_verdict.Verdict.{Verdict}
use Rattle.coap_block.specs.declared.fetch_verdict.Verdict.TheVariants.{Refuse, Again, Done, Ask}
use Rattle.coap_block.specs.declared.fetch_judging.TheConstants.{MAX_RESTARTS as max_restarts}
use Rattle.coap_types.specs.Piece.{size_of, offset_of}
use Rattle.coap_block.specs.Sizes.{Sizes}

-- the client's block size and its longest body, what was gathered since the start, the block that was asked for (none
-- at the start), its tag
pub record FetchState : Type 0 where
  pub szx : ℕ
  pub limit : ℕ
  pub gathered : List ℕ
  pub asked : Option Asked
  pub tag : Option (List ℕ)
  pub restarts : ℕ

abbrev pub start : Sizes → ℕ → FetchState
start sizes restarts = record {
  szx = sizes.szx;
  limit = sizes.limit;
  gathered = [];
  asked = None;
  tag = None;
  restarts = restarts;
}

-- those that it was made with
abbrev pub sizes_of : FetchState → Sizes
sizes_of s = record { szx = s.szx; limit = s.limit }

-- the first part is block 0, a later one the one asked for
abbrev pub fits : Option Asked → ℕ → ℕ → Bool
fits None num szx = num == 0
fits (Some asked) num szx = (num == asked.num) && (szx == asked.szx)

-- a part with more behind it fills its block; the last one isn't longer, nor empty behind others
abbrev pub is_sized : Bool → ℕ → ℕ → ℕ → Bool
is_sized true num szx len = len == size_of szx
is_sized false num szx len = nat_le len (size_of szx) && (nat_lt 0 len || (num == 0))

abbrev pub same_tag : Option (List ℕ) → Option (List ℕ) → Bool
same_tag (Some a) (Some b) = bytes_eq a b
same_tag a b = false

-- behind other parts, the tag isn't theirs
abbrev pub differs_from : Option Asked → Option (List ℕ) → Option (List ℕ) → Bool
differs_from asked old tag = is_some asked && not (same_tag tag old)

abbrev pub differs : FetchState → Option (List ℕ) → Bool
differs s tag = differs_from s.asked s.tag tag

-- one of several parts, without an ETag
abbrev pub lacks_tag : Block → Option (List ℕ) → Bool
lacks_tag b tag = (b.more || nat_lt 0 b.num) && not (is_some tag)

-- a body that changed is fetched anew, but not for ever
abbrev pub changed : ℕ → Verdict
changed restarts = if nat_le max_restarts restarts then Refuse Changed else Again

-- the next block begins where this one ends, in the smaller of the two sizes
abbrev pub next_szx : FetchState → Block → ℕ
next_szx s b = min b.szx s.szx

abbrev pub number_behind : ℕ → Block → ℕ
number_behind szx b = (offset_of b.num b.szx + size_of b.szx) / size_of (min b.szx szx)

abbrev pub next_num : FetchState → Block → ℕ
next_num s b = number_behind s.szx b

-- the tests, in their order; the payload has so many bytes
abbrev pub verdict : FetchState → Option Block → Option (List ℕ) → ℕ → Verdict
verdict s None tag len =
    if is_some s.asked then Refuse BadBlock
    else if nat_lt s.limit len then Refuse TooLarge
    else Done
verdict s (Some b) tag len =
    if not (fits s.asked b.num b.szx && is_sized b.more b.num b.szx len) then Refuse BadBlock
    else if nat_lt s.limit (offset_of b.num b.szx + len) then Refuse TooLarge
    else if lacks_tag b tag then Refuse NoTag
    else if differs s tag then changed s.restarts
    else if b.more then Ask (next_num s b) (next_szx s b)
    else Done

abbrev pub after : FetchState → Option (List ℕ) → List ℕ → Verdict → FetchState
after s tag payload (Refuse why) = s
after s tag payload Again = start (sizes_of s) (s.restarts + 1)
after s tag payload Done = start (sizes_of s) 0
after s tag payload (Ask num szx) = record s {
  gathered = s.gathered ++ payload;
  asked = Some (record { num = num; szx = szx });
  tag = tag;
}
