-- What a body is that is given out (RFC 7959, section 2.4).
use Rattle.std.specs.Prelude.{◌≡◌, true, false, ℕ, List, ◌++◌, length, Option, None}
use Rattle.coap_types.specs.declared.block.Block.{Block}
use Rattle.coap_block.specs.declared.fetch_verdict.Verdict.TheVariants.{Done}
use Rattle.coap_block.specs.Gathered.{payloads_of}
use Rattle.coap_block.specs.Whole.{Part, Each, InOrder, Payloads, Blocks, Alone, Whole}
use Rattle.coap_parts.specs.Handed.{joins}
use Rattle.coap_parts.specs.PartTrace.{PartTrace, PartState, Led, parts_since, verdict_on}

-- a whole one is its parts in order, under one entity-tag where they are several: it is of one version
abbrev pub WholeByHistory : Type 0
WholeByHistory = (t : PartTrace) (s : PartState) (block : Option Block) (came : Option (List ℕ)) (payload : List ℕ)
    → Led t s → verdict_on s block came (length payload) ≡ Done → joins s.gathered ≡ false
    → Whole (payloads_of (parts_since t) block came payload) (s.fetch.gathered ++ payload)

-- a joined one is its parts in order, and none has an entity-tag
abbrev pub HasNoTag : Part → Type 0
HasNoTag p = p.tag ≡ None

abbrev pub IsJoined : Payloads → List ℕ → Type 0
IsJoined (Blocks parts) body = InOrder parts body × Each HasNoTag parts
IsJoined (Alone payload) body = ⊥

abbrev pub JoinedByHistory : Type 0
JoinedByHistory = (t : PartTrace) (s : PartState) (block : Option Block) (came : Option (List ℕ)) (payload : List ℕ)
    → Led t s → verdict_on s block came (length payload) ≡ Done → joins s.gathered ≡ true
    → IsJoined (payloads_of (parts_since t) block came payload) (s.fetch.gathered ++ payload)

-- where that is not allowed, none is joined
abbrev pub NoneJoined : Type 0
NoneJoined = (t : PartTrace) (s : PartState) → Led t s → s.untagged ≡ false → joins s.gathered ≡ false
