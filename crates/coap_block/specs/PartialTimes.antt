-- When a server has a partial body (RFC 7959, sections 2.5 and 7).
use Rattle.std.specs.Prelude.{◌≡◌, ◌↔◌, ◌≤◌, ◌+◌, ◌==◌, true, ℕ, Option, Some, None, IsSome, IfSome, length}
use Rattle.std.specs.Prelude.{if◌then◌else◌}
use Rattle.std.specs.Option.{option_map}
use Rattle.coap_types.specs.declared.block.Block.{Block}
use Rattle.coap_types.specs.SameEndpoint.{same_endpoint}
use Rattle.coap_block.specs.declared.block_verdict.BlockVerdict.{BlockVerdict}
use Rattle.coap_block.specs.declared.block_verdict.BlockVerdict.TheVariants.{Refuse, Join, Done}
use Rattle.coap_block.specs.declared.assembly_step.AssemblyRefusal.TheVariants.{BadRequest, EntityIncomplete}
use Rattle.coap_block.specs.declared.assembly_step.AssemblyRefusal.TheVariants.{EntityTooLarge, Unavailable}
use Rattle.coap_block.specs.declared.partial.TheConstants.{PARTIAL_LIFETIME_MS as partial_lifetime}
use Rattle.coap_block.specs.AssemblyState.{Key, PartialBody, same_key, partial_of}
use Rattle.coap_block.specs.AssemblyStep.{moment_at, there_at, verdict_at}
use Rattle.coap_block.specs.AssemblyTrace.{AssemblyTrace, Made, Arrived, Forgot, state_after}

-- When the last block was taken, if a block 0 was. A body that is whole ends that, and so does one that is
-- too long (4.13); what else is refused leaves it.
abbrev pub last_by : BlockVerdict → Block → ℕ → Option ℕ → Option ℕ
last_by (Refuse BadRequest) b at last = last
last_by (Refuse EntityIncomplete) b at last = last
last_by (Refuse EntityTooLarge) b at last = None
last_by (Refuse Unavailable) b at last = last
last_by (Join szx) b at last = if b.num == 0 then Some at else option_map (λ earlier. at) last
last_by Done b at last = None

-- when the last block of a key was taken, if a block 0 with more behind it was since its last whole body or 4.13, and
-- since its endpoint was forgotten
abbrev pub last_taken : Key → AssemblyTrace → Option ℕ
last_taken key (Made sizes) = None
last_taken key (Arrived earlier now k b payload) =
    if same_key k key then last_by (verdict_at (state_after earlier) now k b (length payload)) b
    (moment_at (state_after earlier) now) (last_taken key earlier)
    else last_taken key earlier
last_taken key (Forgot earlier from) = if same_endpoint key.from from then None else last_taken key earlier

-- it was no longer ago than a partial body is kept
abbrev pub IsRecent : Option ℕ → ℕ → Type 0
IsRecent None at = ⊥
IsRecent (Some last) at = at ≤ last + partial_lifetime

-- a partial body is there exactly where the last block was taken recently, and knows when that was
pub record IsThereExactly (last : Option ℕ) (at : ℕ) (found : Option PartialBody) : Type 0 where
  pub when : IsSome found ↔ IsRecent last at
  pub since : IfSome found (λ (p : PartialBody). last ≡ Some p.last)

-- at the clock
abbrev pub ThereByHistory : Type 0
ThereByHistory = (t : AssemblyTrace) (key : Key)
    → IsThereExactly (last_taken key t) (state_after t).clock (partial_of key (state_after t).partials)

-- and at a later moment, for the next block
abbrev pub ThereAtMoment : Type 0
ThereAtMoment = (t : AssemblyTrace) (now : ℕ) (key : Key)
    → IsThereExactly (last_taken key t) (moment_at (state_after t) now) (partial_of key (there_at (state_after t) now))

-- more is behind a block that is joined
abbrev pub JoinsWhereMore : Type 0
JoinsWhereMore = (t : AssemblyTrace) (now : ℕ) (key : Key) (b : Block) (len szx : ℕ)
    → verdict_at (state_after t) now key b len ≡ Join szx → b.more ≡ true
