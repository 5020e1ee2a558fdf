-- What a fetch answers to a part (RFC 7959, section 2.4).
use Rattle.std.specs.Prelude.{◌≡◌, ◌≤◌, ℕ, false, List, ◌++◌, length, Option}
use Rattle.std.specs.Option.{option_map}
use Rattle.coap_types.specs.declared.block.TheConstants.{MAX_NUM as max_num}
use Rattle.coap_block.specs.declared.fetch_progress.Asked.{Asked}
use Rattle.coap_types.specs.declared.block.Block.{Block}
use Rattle.coap_block.specs.declared.fetch_verdict.Verdict.{Verdict}
use Rattle.coap_block.specs.declared.fetch_verdict.Verdict.TheVariants.{Refuse, Again, Done, Ask}
use Rattle.coap_block.specs.declared.fetch_step.Step.{Step}
use Rattle.coap_block.specs.declared.fetch_step.Step.TheVariants.{Next, Whole, Restart, Refused}
use Rattle.coap_block.specs.FetchStep.{FetchState, verdict, after}

abbrev pub answer_of : {A : Type 0} → List ℕ → Verdict → Step A
answer_of whole (Refuse why) = Refused why
answer_of whole Again = Restart
answer_of whole Done = Whole whole
answer_of whole (Ask num szx) = Next (record { num = num; more = false; szx = szx })

-- the answer to a part, and the state behind it
pub record Takes {A : Type 0} (s : FetchState) (block : Option Block) (tag : Option (List ℕ)) (payload : List ℕ)
    (answer : Step A) (new : FetchState) : Type 0 where
  pub answer_is : answer ≡ answer_of (s.gathered ++ payload) (verdict s block tag (length payload))
  pub new_is : new ≡ after s tag payload (verdict s block tag (length payload))

-- the block to ask for has a number that can be written
abbrev pub IsNumbered : {A : Type 0} → Step A → Type 0
IsNumbered (Next block) = block.num ≤ max_num
IsNumbered (Whole body) = Unit {0}
IsNumbered Restart = Unit {0}
IsNumbered (Refused why) = Unit {0}

-- the block that was asked for
abbrev pub block_asked : FetchState → Option Block
block_asked s = option_map (λ (asked : Asked). record { num = asked.num; more = false; szx = asked.szx }) s.asked

-- no memory is taken
abbrev pub IsQuiet : Verdict → Type 0
IsQuiet (Refuse why) = Unit {0}
IsQuiet Again = Unit {0}
IsQuiet Done = ⊥
IsQuiet (Ask num szx) = ⊥
