-- A fetch whose parts may have no entity-tag: what it keeps, its steps and its history (RFC 7959, section 2.4).
use Rattle.std.specs.Prelude.{◌≡◌, ℕ, Bool, false, List, [], ◌++◌, length, Option}
use Rattle.std.specs.Prelude.{if◌then◌else◌}
use Rattle.coap_types.specs.declared.block.Block.{Block}
use Rattle.coap_block.specs.declared.fetch_verdict.Verdict.{Verdict}
use Rattle.coap_block.specs.declared.fetch_verdict.Verdict.TheVariants as verdicts
use Rattle.coap_block.specs.FetchStep.{FetchState, start, verdict, after}
use Rattle.coap_block.specs.FetchTrace.{parts_by}
use Rattle.coap_block.specs.Sizes.{Sizes}
use Rattle.coap_block.specs.Whole.{Part}
use Rattle.coap_parts.specs.Handed.{handed, joins, tagged_so}
use Rattle.coap_parts.specs.declared.tags.Gathered.{Gathered}
use Rattle.coap_parts.specs.declared.tags.Gathered.TheVariants.{Nothing}
use Rattle.coap_parts.specs.declared.fetch.Progress.{Progress}
use Rattle.coap_parts.specs.declared.fetch.Progress.TheVariants as progress

-- the fetch, whether parts without an entity-tag are joined, and which tag those have that were gathered
pub record PartState : Type 0 where
  pub fetch : FetchState
  pub untagged : Bool
  pub gathered : Gathered

abbrev pub nothing_yet : Sizes → Bool → PartState
nothing_yet sizes untagged = record { fetch = start sizes 0; untagged = untagged; gathered = Nothing }

-- what is said of a part that came
abbrev pub verdict_on : PartState → Option Block → Option (List ℕ) → ℕ → Verdict
verdict_on s block came len = verdict s.fetch block (handed s.untagged s.gathered came) len

abbrev pub gathered_by : Verdict → Option (List ℕ) → Gathered → Gathered
gathered_by (verdicts.Refuse why) came gathered = gathered
gathered_by verdicts.Again came gathered = Nothing
gathered_by verdicts.Done came gathered = Nothing
gathered_by (verdicts.Ask num szx) came gathered = tagged_so came

abbrev pub after_part : PartState → Option Block → Option (List ℕ) → List ℕ → PartState
after_part s block came payload =
    let v = verdict_on s block came (length payload) in
    record s {
      fetch = after s.fetch (handed s.untagged s.gathered came) payload v;
      gathered = gathered_by v came s.gathered;
    }

-- a body of several parts without entity-tags is joined, and any other one whole
abbrev pub given_out : {A : Type 0} → (joined : Bool) (body : List ℕ) → Progress A
given_out joined body = if joined then progress.Joined body else progress.Whole body

-- the answer to a part
abbrev pub progress_of : {A : Type 0} → (joined : Bool) (whole : List ℕ) → Verdict → Progress A
progress_of joined whole (verdicts.Refuse why) = progress.Refused why
progress_of joined whole verdicts.Again = progress.Again
progress_of joined whole verdicts.Done = given_out joined whole
progress_of joined whole (verdicts.Ask num szx) =
    progress.Next (record { num = num; more = false; szx = szx })

pub record TakesPart {A : Type 0} (s : PartState) (block : Option Block) (came : Option (List ℕ)) (payload : List ℕ)
    (answer : Progress A) (new : PartState) : Type 0 where
  pub answer_is : answer
      ≡ progress_of (joins s.gathered) (s.fetch.gathered ++ payload) (verdict_on s block came (length payload))
  pub new_is : new ≡ after_part s block came payload

-- what came since it was made, the newest outermost
pub data PartTrace : Type 0 where
  Made : (sizes : Sizes) (untagged : Bool) → PartTrace
  Took : (earlier : PartTrace) (block : Option Block) (came : Option (List ℕ)) (payload : List ℕ) → PartTrace

abbrev pub state_after : PartTrace → PartState
state_after (Made sizes untagged) = nothing_yet sizes untagged
state_after (Took earlier block came payload) = after_part (state_after earlier) block came payload

-- this history leaves the fetch so
abbrev pub Led : PartTrace → PartState → Type 0
Led t s = s ≡ state_after t

-- the parts that were taken since the start, each with the entity-tag that it came with
abbrev pub parts_since : PartTrace → List Part
parts_since (Made sizes untagged) = []
parts_since (Took earlier block came payload) =
    parts_by (verdict_on (state_after earlier) block came (length payload)) block came payload (parts_since earlier)
