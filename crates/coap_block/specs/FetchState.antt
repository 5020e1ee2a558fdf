-- The state that a fetch's fields stand for.
use Rattle.std.specs.Prelude.{ℕ, ◌≤◌, List, length, take, Option, Some, None}
use Rattle.coap_types.specs.declared.block.TheConstants.{MAX_NUM as max_num}
use Rattle.coap_block.specs.declared.fetch_progress.Asked.{Asked}
use Rattle.coap_block.specs.declared.fetch_progress.Progress.{Progress}
use Rattle.coap_block.specs.declared.fetch_progress.Before.{Before}
use Rattle.coap_block.specs.declared.fetch_progress.Before.TheVariants.{Nothing, Same, Was}
use Rattle.coap_block.specs.declared.fetch_verdict.Verdict.{Verdict}
use Rattle.coap_block.specs.declared.fetch_verdict.Verdict.TheVariants.{Refuse, Again, Done, Ask}
use Rattle.coap_block.specs.Sizes.{Sizes}
use Rattle.coap_block.specs.FetchStep.{FetchState}

abbrev pub state_of : Sizes → List ℕ → Progress → FetchState
state_of sizes bytes p = record {
  szx = sizes.szx;
  limit = sizes.limit;
  gathered = take p.len bytes;
  asked = p.asked;
  tag = p.tag;
  restarts = p.restarts;
}

abbrev pub before_of : Sizes → List ℕ → Progress → Before → Option FetchState
before_of sizes bytes p Nothing = None
before_of sizes bytes p Same = Some (state_of sizes bytes p)
before_of sizes bytes p (Was q) = Some (state_of sizes bytes q)

-- what callers see of a fetch
pub record FetchValue : Type 0 where
  pub state : FetchState
  pub before : Option FetchState

abbrev pub value_of : Sizes → List ℕ → Progress → Before → FetchValue
value_of sizes bytes p before = record { state = state_of sizes bytes p; before = before_of sizes bytes p before }

-- the block that was asked for has a number that can be written
abbrev pub IsAskable : Option Asked → Type 0
IsAskable None = Unit {0}
IsAskable (Some asked) = asked.num ≤ max_num

abbrev pub IsNumberedAsk : Verdict → Type 0
IsNumberedAsk (Refuse why) = Unit {0}
IsNumberedAsk Again = Unit {0}
IsNumberedAsk Done = Unit {0}
IsNumberedAsk (Ask num szx) = num ≤ max_num

-- what was gathered is there
pub record IsGoing (p : Progress) (bytes : List ℕ) : Type 0 where
  pub gathered : p.len ≤ length bytes
  pub askable : IsAskable p.asked

-- also what `undo` puts back
abbrev pub IsGoingBefore : Before → List ℕ → Type 0
IsGoingBefore Nothing bytes = Unit {0}
IsGoingBefore Same bytes = Unit {0}
IsGoingBefore (Was q) bytes = IsGoing q bytes
