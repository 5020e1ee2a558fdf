-- What a fetch has gathered, by the parts that it took since its start (RFC 7959, section 2.4).
use Rattle.std.specs.Prelude.{◌≡◌, ◌≢◌, ℕ, true, ◌++◌, List, [], ◌∷◌, length, Option, Some, None}
use Rattle.coap_types.specs.declared.block.Block.{Block}
use Rattle.coap_block.specs.declared.fetch_progress.Asked.{Asked}
use Rattle.coap_block.specs.declared.fetch_verdict.Verdict.TheVariants.{Done, Ask}
use Rattle.coap_types.specs.Piece.{size_of, offset_of}
use Rattle.coap_block.specs.Sizes.{Sizes}
use Rattle.coap_block.specs.Whole.{Part, Each, joined, Chained, HasTag, Payloads, Blocks, Alone, Whole}
use Rattle.coap_block.specs.FetchStep.{FetchState, start, verdict, after}

abbrev pub part : Block → Option (List ℕ) → List ℕ → Part
part b tag payload = record { num = b.num; more = b.more; szx = b.szx; tag = tag; bytes = payload }

-- more is behind it, and it fills its block
pub record IsFull (p : Part) : Type 0 where
  pub more : p.more ≡ true
  pub full : length p.bytes ≡ size_of p.szx

-- what is asked for begins where the parts end; they have the tag
abbrev pub Awaits : Option Asked → Option (List ℕ) → List Part → Type 0
Awaits None tag parts = parts ≡ []
Awaits (Some asked) tag parts =
    (offset_of asked.num asked.szx ≡ length (joined parts)) × (parts ≢ [])
    × ((t : List ℕ) × (tag ≡ Some t) × Each (HasTag t) parts)

pub record Gathered (parts : List Part) (s : FetchState) : Type 0 where
  pub bytes : s.gathered ≡ joined parts
  pub chained : Chained 0 parts
  pub full : Each IsFull parts
  pub awaits : Awaits s.asked s.tag parts

abbrev pub GatheredAtStart : Type 0
GatheredAtStart = (sizes : Sizes) (restarts : ℕ) → Gathered [] (start sizes restarts)

abbrev pub GatheredByPart : Type 0
GatheredByPart = (parts : List Part) (s : FetchState) (b : Block) (tag : Option (List ℕ)) (payload : List ℕ)
    (num szx : ℕ)
    → Gathered parts s → verdict s (Some b) tag (length payload) ≡ Ask num szx
    → Gathered (parts ++ part b tag payload ∷ []) (after s tag payload (Ask num szx))

-- what was given of the body, with what arrives last
abbrev pub payloads_of : List Part → Option Block → Option (List ℕ) → List ℕ → Payloads
payloads_of parts None tag payload = Alone payload
payloads_of parts (Some b) tag payload = Blocks (parts ++ part b tag payload ∷ [])

-- the body that is answered is whole by the parts since the start
abbrev pub WholeByParts : Type 0
WholeByParts = (parts : List Part) (s : FetchState) (block : Option Block) (tag : Option (List ℕ)) (payload : List ℕ)
    → Gathered parts s → verdict s block tag (length payload) ≡ Done
    → Whole (payloads_of parts block tag payload) (s.gathered ++ payload)
