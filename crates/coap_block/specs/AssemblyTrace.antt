-- An assembly's history: the blocks that came since it was made, and the endpoints that were forgotten, the newest
-- outermost (RFC 7959, section 2.5).
use Rattle.std.specs.Prelude.{◌≡◌, ◌≢◌, ℕ, ◌≤◌, ◌==◌, false, List, [], ◌∷◌, ◌++◌, length, Some, None, if◌then◌else◌}
use Rattle.std.specs.List.{list_any}
use Rattle.coap_types.specs.declared.block.Block.{Block}
use Rattle.coap_types.specs.declared.endpoint.Endpoint.{Endpoint}
use Rattle.coap_types.specs.SameEndpoint.{same_endpoint}
use Rattle.coap_block.specs.declared.block_verdict.BlockVerdict.{BlockVerdict}
use Rattle.coap_block.specs.declared.block_verdict.BlockVerdict.TheVariants.{Refuse, Join, Done}
use Rattle.coap_block.specs.declared.assembly_judging.TheConstants.{MAX_PARTIALS as max_partials}
use Rattle.coap_block.specs.Sizes.{Sizes}
use Rattle.coap_block.specs.Whole.{Part, Each, joined, Chained, WholeAtServer}
use Rattle.coap_block.specs.Gathered.{part, IsFull}
use Rattle.coap_block.specs.AssemblyState.{Key, PartialBody, AssemblyState, same_key, nothing_yet, partial_of}
use Rattle.coap_block.specs.AssemblyState.{elsewhere, without_peer}
use Rattle.coap_block.specs.AssemblyStep.{there_at, verdict_at, with_block, after_block}

pub data AssemblyTrace : Type 0 where
  Made : (sizes : Sizes) → AssemblyTrace
  Arrived : (earlier : AssemblyTrace) (now : ℕ) (key : Key) (b : Block) (payload : List ℕ) → AssemblyTrace
  Forgot : (earlier : AssemblyTrace) (from : Endpoint) → AssemblyTrace

abbrev pub state_after : AssemblyTrace → AssemblyState
state_after (Made sizes) = nothing_yet sizes
state_after (Arrived earlier now key b payload) = after_block (state_after earlier) now key b payload
state_after (Forgot earlier from) = without_peer from (state_after earlier)

-- this history leaves the assembly so
abbrev pub Led : AssemblyTrace → AssemblyState → Type 0
Led t s = s ≡ state_after t

-- block 0 begins anew, another comes behind those before it
abbrev pub behind : List Part → Block → List ℕ → List Part
behind parts b payload = if b.num == 0 then part b None payload ∷ [] else parts ++ part b None payload ∷ []

-- a block that is refused is not taken
abbrev pub blocks_by : BlockVerdict → Block → List ℕ → List Part → List Part
blocks_by (Refuse why) b payload parts = parts
blocks_by (Join szx) b payload parts = behind parts b payload
blocks_by Done b payload parts = behind parts b payload

-- the blocks that were taken for a key since its last block 0
abbrev pub blocks_since : Key → AssemblyTrace → List Part
blocks_since key (Made sizes) = []
blocks_since key (Arrived earlier now k b payload) =
    if same_key k key then blocks_by (verdict_at (state_after earlier) now k b (length payload)) b payload
    (blocks_since key earlier)
    else blocks_since key earlier
blocks_since key (Forgot earlier from) = blocks_since key earlier

-- a partial body is these blocks, in order and each of its full size, and is not longer than the limit
pub record JoinedFrom (limit : ℕ) (parts : List Part) (p : PartialBody) : Type 0 where
  pub bytes : p.bytes ≡ joined parts
  pub some : parts ≢ []
  pub chained : Chained 0 parts
  pub full : Each IsFull parts
  pub short : length p.bytes ≤ limit

-- a partial body is the blocks that were taken for its key since its last block 0
abbrev pub PartialsByHistory : Type 0
PartialsByHistory = (t : AssemblyTrace) (key : Key) (p : PartialBody) → partial_of key (state_after t).partials ≡ Some p
    → JoinedFrom (state_after t).limit (blocks_since key t) p

-- there are no more than a server keeps (profile)
abbrev pub FewPartials : Type 0
FewPartials = (t : AssemblyTrace) → length (state_after t).partials ≤ max_partials

-- no two are of one key
abbrev pub AreDistinct : List PartialBody → Type 0
AreDistinct [] = Unit {0}
AreDistinct (p ∷ ps) = (partial_of p.key ps ≡ None) × AreDistinct ps

abbrev pub OneForAKey : Type 0
OneForAKey = (t : AssemblyTrace) → AreDistinct (state_after t).partials

-- Whatever came before, a body that is answered is whole by the blocks that were taken for its key
-- since its last block 0, the last one among them, and is not longer than the limit.
pub record IsWholeBody (limit : ℕ) (parts : List Part) (body : List ℕ) : Type 0 where
  pub whole : WholeAtServer parts body
  pub joined_is : body ≡ joined parts
  pub short : length body ≤ limit

abbrev pub WholeByBlocks : Type 0
WholeByBlocks = (t : AssemblyTrace) (s : AssemblyState) (now : ℕ) (key : Key) (b : Block) (payload : List ℕ)
    → Led t s → verdict_at s now key b (length payload) ≡ Done
    → IsWholeBody s.limit (blocks_since key (Arrived t now key b payload)) (with_block s now key b payload)

-- a body that is answered leaves no partial body of its key
abbrev pub NoneLeft : Type 0
NoneLeft = (t : AssemblyTrace) (now : ℕ) (key : Key) (b : Block) (payload : List ℕ)
    → verdict_at (state_after t) now key b (length payload) ≡ Done
    → partial_of key (state_after (Arrived t now key b payload)).partials ≡ None

-- a block of one key leaves the partial body of another
abbrev pub OthersStay : Type 0
OthersStay = (s : AssemblyState) (now : ℕ) (key other : Key) (b : Block) (payload : List ℕ) → other ≢ key
    → partial_of other (after_block s now key b payload).partials ≡ partial_of other (there_at s now)

-- an endpoint that is forgotten has no partial body, whatever its key
abbrev pub ForgottenHasNone : Type 0
ForgottenHasNone = (from : Endpoint) (ps : List PartialBody)
    → list_any (λ p. same_endpoint p.key.from from) (elsewhere from ps) ≡ false

-- .. and each partial body of another endpoint stays
abbrev pub ForgettingLeaves : Type 0
ForgettingLeaves = (from : Endpoint) (other : Key) (ps : List PartialBody) → other.from ≢ from
    → partial_of other (elsewhere from ps) ≡ partial_of other ps
