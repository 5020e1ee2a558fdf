-- What a server answers to a block of an upload (RFC 7959, sections 2.5 and 2.9).
use Rattle.std.specs.Prelude.{◌≡◌, ℕ, true, List, length}
use Rattle.coap_types.specs.declared.message.Code.{Code}
use Rattle.coap_types.specs.declared.message.TheConstants.Code.{BAD_REQUEST as bad_request}
use Rattle.coap_types.specs.declared.message.TheConstants.Code.{REQUEST_ENTITY_INCOMPLETE as entity_incomplete}
use Rattle.coap_types.specs.declared.message.TheConstants.Code.{REQUEST_ENTITY_TOO_LARGE as entity_too_large}
use Rattle.coap_types.specs.declared.message.TheConstants.Code.{SERVICE_UNAVAILABLE as unavailable}
use Rattle.coap_types.specs.declared.block.Block.{Block}
use Rattle.coap_block.specs.declared.assembly_step.Took.{Took}
use Rattle.coap_block.specs.declared.assembly_step.Took.TheVariants.{More, Whole, Refused}
use Rattle.coap_block.specs.declared.assembly_step.AssemblyRefusal.{AssemblyRefusal}
use Rattle.coap_block.specs.declared.assembly_step.AssemblyRefusal.TheVariants.{BadRequest, EntityIncomplete}
use Rattle.coap_block.specs.declared.assembly_step.AssemblyRefusal.TheVariants.{EntityTooLarge, Unavailable}
use Rattle.coap_block.specs.declared.block_verdict.BlockVerdict.{BlockVerdict}
use Rattle.coap_block.specs.declared.block_verdict.BlockVerdict.TheVariants.{Refuse, Join, Done}
use Rattle.coap_block.specs.AssemblyState.{Key, AssemblyState}
use Rattle.coap_block.specs.AssemblyStep.{verdict_at, with_block, after_block}

-- the response codes (RFC 7252, section 12.1.2; RFC 7959, section 2.9)
abbrev pub refusal_code : AssemblyRefusal → Code
refusal_code BadRequest = bad_request
refusal_code EntityIncomplete = entity_incomplete
refusal_code EntityTooLarge = entity_too_large
refusal_code Unavailable = unavailable

abbrev pub took : {A : Type 0} → List ℕ → ℕ → BlockVerdict → Took A
took whole num (Refuse why) = Refused why
took whole num (Join szx) = More (record { num = num; more = true; szx = szx })
took whole num Done = Whole whole

-- the answer to a block, and the state behind it
pub record TakesBlock {A : Type 0} (s : AssemblyState) (now : ℕ) (key : Key) (b : Block) (payload : List ℕ)
    (answer : Took A) (new : AssemblyState) : Type 0 where
  pub answer_is : answer ≡ took (with_block s now key b payload) b.num (verdict_at s now key b (length payload))
  pub new_is : new ≡ after_block s now key b payload

-- no memory is taken
abbrev pub IsRefused : BlockVerdict → Type 0
IsRefused (Refuse why) = Unit {0}
IsRefused (Join szx) = ⊥
IsRefused Done = ⊥
