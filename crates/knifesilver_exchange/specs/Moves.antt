-- What the exports of bodies in blocks do (RFC 7959, sections 2.4 and 2.5).
use Rattle.std.specs.Prelude.{◌≡◌, ◌≢◌, ℕ, ℤ, pos, Bool, true, false, ◌==◌, ◌&&◌, List, length, take, Option}
use Rattle.std.specs.Prelude.{Some, None}
use Rattle.std.specs.declared.alloc.Global.{Global}
use Rattle.coap_types.specs.MethodCode.{method_of}
use Rattle.coap_types.specs.RequestPath.{path_of, path_refusal}
use Rattle.coap_types.specs.Piece.{Piece}
use Rattle.coap_types.specs.declared.block.Block.{Block}
use Rattle.coap_types.specs.declared.endpoint.Endpoint.{Endpoint}
use Rattle.coap_types.specs.declared.message.TheConstants.Code.{CONTINUE as continue_code}
use Rattle.coap_types.specs.declared.option_number.TheConstants.{BLOCK1 as block1, BLOCK2 as block2}
use Rattle.coap_types.specs.declared.request.Method.{Method}
use Rattle.coap_block.specs.AssemblyAnswer.{TakesBlock}
use Rattle.coap_block.specs.AssemblyState.{Key, nothing_yet}
use Rattle.coap_block.specs.UploadStep.{UploadState, UploadValue, block_to_send, continues, moved, upload_start}
use Rattle.coap_block.specs.declared.assembly_step.Took.{Took}
use Rattle.coap_block.specs.declared.assembly_step.Took.TheVariants as took
use Rattle.coap_codec.specs.Message.{Message, Spells}
use Rattle.coap_parts.specs.PartTrace.{TakesPart}
use Rattle.coap_parts.specs.PartTrace as parts
use Rattle.coap_parts.specs.declared.fetch.Progress.{Progress}
use Rattle.coap_parts.specs.declared.fetch.Progress.TheVariants as progress
use Rattle.knifesilver_exchange.specs.Answers.{told}
use Rattle.knifesilver_exchange.specs.Blocks.{AreBlock, SaysBlock, tag_in}
use Rattle.knifesilver_exchange.specs.BlocksHeld.{HoldsAssemblyIn, HoldsFetchIn, HoldsUploadIn}
use Rattle.knifesilver_exchange.specs.Chosen.{AreChosen, exponent_of}
use Rattle.knifesilver_exchange.specs.Numbers.{assembly_number, fetch_number}
use Rattle.knifesilver_exchange.specs.declared.crossing.KsBlock.{KsBlock}
use Rattle.knifesilver_exchange.specs.declared.held.Held.{Held}
use Rattle.knifesilver_exchange.specs.declared.held.OurAssembly.{OurAssembly}
use Rattle.knifesilver_exchange.specs.declared.held.OurFetch.{OurFetch}

-- a fetch, an upload and an assembly that have nothing yet
abbrev pub IsFreshFetch : (block_size body_limit : ℕ) → Bool → Option Held → Type 0
IsFreshFetch block_size body_limit untagged held = HoldsFetchIn (λ f. (szx : ℕ) × (limit : ℕ)
    × AreChosen block_size body_limit szx limit
    × (f.fetch ≡ parts.nothing_yet (record { szx = szx; limit = limit }) untagged) × (f.whole ≡ None)) held

abbrev pub IsFreshUpload : List ℕ → ℕ → Option Held → Type 0
IsFreshUpload body block_size held = HoldsUploadIn (λ u. (szx : ℕ) × (exponent_of block_size ≡ Some szx)
    × (u.state ≡ upload_start body szx)) held

abbrev pub IsFreshAssembly : (block_size body_limit : ℕ) → Option Held → Type 0
IsFreshAssembly block_size body_limit held = HoldsAssemblyIn (λ a. (szx : ℕ) × (limit : ℕ)
    × AreChosen block_size body_limit szx limit
    × (a.assembly.state ≡ nothing_yet (record { szx = szx; limit = limit })) × (a.whole ≡ None)) held

-- the body that is whole is told
abbrev pub IsBody : Option (List ℕ) → (room : List ℕ) (len : ℕ) → Type 0
IsBody whole room len = (body : List ℕ) × (whole ≡ Some body) × (len ≡ length body) × (take len room ≡ body)

-- the answer to a part: 0 and the block to ask for; 1 and how long the body is that is whole, 3 that is joined of parts
-- with no entity-tag; 4 where it changed; or the number of the refusal
abbrev pub AcceptAnswers : ℤ → KsBlock → ℕ → Option (List ℕ) → Progress Global → Type 0
AcceptAnswers answer next len whole (progress.Next b) = (answer ≡ pos 0) × AreBlock next b × (whole ≡ None)
AcceptAnswers answer next len whole (progress.Whole body) =
    (answer ≡ pos 1) × (len ≡ length body) × (whole ≡ Some body)
AcceptAnswers answer next len whole (progress.Joined body) =
    (answer ≡ pos 3) × (len ≡ length body) × (whole ≡ Some body)
AcceptAnswers answer next len whole progress.Again = (answer ≡ pos 4) × (whole ≡ None)
AcceptAnswers answer next len whole (progress.Refused why) = (answer ≡ fetch_number why) × (whole ≡ None)

abbrev pub IsAccept : Option Block → Option (List ℕ) → List ℕ → ℤ → KsBlock → ℕ → OurFetch → OurFetch → Type 0
IsAccept block tag payload answer next len f g = (did : Progress Global) × AcceptAnswers answer next len g.whole did
    × TakesPart f.fetch block tag payload did g.fetch

-- .. the part that a message is: its Block2, its ETag and its payload
abbrev pub Accepts : List ℕ → ℤ → KsBlock → ℕ → OurFetch → OurFetch → Type 0
Accepts datagram answer next len f g = (m : Message) × (block : Option Block) × Spells datagram m
    × SaysBlock block2 m block × IsAccept block (tag_in m) m.payload answer next len f g

-- the block that is to be sent, with its bytes at the front of the room
abbrev pub IsNextBlock : KsBlock → (room : List ℕ) (len : ℕ) → UploadValue → Type 0
IsNextBlock block room len u = AreBlock block (block_to_send u.state)
    × Piece u.state.body block.num block.more block.szx (take len room)

-- an answer of this code and with this Block1 lets the next block be sent
abbrev pub goes_on : ℕ → Option Block → UploadState → Bool
goes_on code None s = false
goes_on code (Some b) s = (code == continue_code.0) && continues s b

-- .. and it is the next one then; else nothing changes
abbrev pub MovesBy : Bool → Option Block → UploadState → UploadState → Type 0
MovesBy true (Some b) s t = t ≡ moved s b
MovesBy true None s t = ⊥
MovesBy false block s t = t ≡ s

abbrev pub IsAccepted : ℕ → Option Block → ℤ → UploadValue → UploadValue → Type 0
IsAccepted code block answer u v = (on : Bool) × (on ≡ goes_on code block u.state) × (answer ≡ told on)
    × MovesBy on block u.state v.state

abbrev pub IsAcceptedBy : List ℕ → ℤ → UploadValue → UploadValue → Type 0
IsAcceptedBy datagram answer u v = (m : Message) × (block : Option Block) × Spells datagram m
    × SaysBlock block1 m block × IsAccepted m.code block answer u v

-- the answer to a block: 0 and the Block1 to answer; 1 and how long the body is that is whole; or the number of the
-- refusal
abbrev pub TakeAnswers : ℤ → KsBlock → ℕ → Option (List ℕ) → Block → Took Global → Type 0
TakeAnswers answer told len whole b (took.More c) = (answer ≡ pos 0) × AreBlock told c × (whole ≡ None)
TakeAnswers answer told len whole b (took.Whole body) =
    (answer ≡ pos 1) × AreBlock told b × (len ≡ length body) × (whole ≡ Some body)
TakeAnswers answer told len whole b (took.Refused why) = (answer ≡ assembly_number why) × (whole ≡ None)

abbrev pub IsTake : ℕ → Key → Block → List ℕ → ℤ → KsBlock → ℕ → OurAssembly → OurAssembly → Type 0
IsTake now key b payload answer told len s t = (did : Took Global) × TakeAnswers answer told len t.whole b did
    × TakesBlock s.assembly.state now key b payload did t.assembly.state

-- .. the block that a request is: its Block1 and its payload, of this endpoint, its path and its method
abbrev pub Takes : ℕ → Endpoint → List ℕ → ℤ → KsBlock → ℕ → OurAssembly → OurAssembly → Type 0
Takes now from datagram answer told len s t = (m : Message) × (method : Method) × (b : Block) × Spells datagram m
    × (method_of m.code ≡ Some method) × SaysBlock block1 m (Some b)
    × IsTake now (record { from = from; path = path_of m.options; method = method }) b m.payload answer told len s t

-- its path has a segment too many, or too long a one
abbrev pub HasBadPath : List ℕ → Type 0
HasBadPath datagram = (m : Message) × Spells datagram m × (path_refusal (path_of m.options) ≢ None)
