-- A fetch's history: what came since it was made, the newest outermost (RFC 7959, section 2.4).
use Rattle.std.specs.Prelude.{◌≡◌, ◌≤◌, ℕ, List, [], ◌∷◌, ◌++◌, length, Option, Some, None}
use Rattle.coap_types.specs.declared.block.Block.{Block}
use Rattle.coap_block.specs.declared.fetch_verdict.Verdict.{Verdict}
use Rattle.coap_block.specs.declared.fetch_verdict.Verdict.TheVariants.{Refuse, Again, Done, Ask}
use Rattle.coap_block.specs.Sizes.{Sizes}
use Rattle.coap_block.specs.Whole.{Part, Whole}
use Rattle.coap_block.specs.FetchStep.{FetchState, start, verdict, after}
use Rattle.coap_block.specs.Gathered.{part, payloads_of, Gathered}

pub data FetchTrace : Type 0 where
  Made : (sizes : Sizes) → FetchTrace
  Took : (earlier : FetchTrace) (block : Option Block) (tag : Option (List ℕ)) (payload : List ℕ) → FetchTrace

abbrev pub state_after : FetchTrace → FetchState
state_after (Made sizes) = start sizes 0
state_after (Took earlier block tag payload) =
    after (state_after earlier) tag payload (verdict (state_after earlier) block tag (length payload))

abbrev pub parts_by : Verdict → Option Block → Option (List ℕ) → List ℕ → List Part → List Part
parts_by (Refuse why) block tag payload parts = parts
parts_by Again block tag payload parts = []
parts_by Done block tag payload parts = []
parts_by (Ask num szx) None tag payload parts = parts
parts_by (Ask num szx) (Some b) tag payload parts = parts ++ part b tag payload ∷ []

-- the parts that were taken since the start
abbrev pub parts_since : FetchTrace → List Part
parts_since (Made sizes) = []
parts_since (Took earlier block tag payload) =
    parts_by (verdict (state_after earlier) block tag (length payload)) block tag payload (parts_since earlier)

-- this history leaves the fetch so
abbrev pub Led : FetchTrace → FetchState → Type 0
Led t s = s ≡ state_after t

abbrev pub PartsAreGathered : Type 0
PartsAreGathered = (t : FetchTrace) → Gathered (parts_since t) (state_after t)

-- whatever came before, a body that is answered is whole by the parts since the start
abbrev pub WholeByHistory : Type 0
WholeByHistory = (t : FetchTrace) (s : FetchState) (block : Option Block) (tag : Option (List ℕ)) (payload : List ℕ)
    → Led t s → verdict s block tag (length payload) ≡ Done
    → Whole (payloads_of (parts_since t) block tag payload) (s.gathered ++ payload)

-- what is gathered is never too long, nor is a body that is answered (RFC 7959, section 7)
abbrev pub GatheredIsShort : Type 0
GatheredIsShort = (t : FetchTrace) (s : FetchState) → Led t s → length s.gathered ≤ s.limit

abbrev pub BodyIsShort : Type 0
BodyIsShort = (t : FetchTrace) (s : FetchState) (block : Option Block) (tag : Option (List ℕ)) (payload : List ℕ)
    → Led t s → verdict s block tag (length payload) ≡ Done → length (s.gathered ++ payload) ≤ s.limit
