-- What calls of an end add to its trace, and to the log.
use Rattle.std.specs.Prelude.{◌≡◌, ℕ, Bool, Option, List, ◌++◌, map, reverse}
use Rattle.coap_types.specs.Past.{all_of}
use Rattle.coap_exchange.specs.Endings.{all_taken}
use Rattle.coap_record.specs.Events.{Config}
use Rattle.coap_record.specs.Record.{Entry, IsOne, AreTicks, given_by}
use Rattle.coap_run.specs.Run.Log.{Log, Line, lines_upon}
use Rattle.coap_record.specs.declared.addresses.Addresses.{Addresses}

-- Whatever calls led to it as it was: these, the newest first, lead to it as it is now.
abbrev pub Moves : {X S : Type 0} → (Config → List X → S → Type 0) → S → List X → S → Type 0
Moves led old calls new = (config : Config) (t : List _) → led config t old → led config (calls ++ t) new

-- an input: one call, and none where it met want of memory
pub record Fed {X S : Type 0} (led : Config → List X → S → Type 0) (Is : X → Type 0) (refused : Bool)
    (old new : S) : Type 0 where
  pub calls : List X
  pub are : IsOne Is refused calls
  pub moves : Moves led old calls new

-- ticks of a moment, up to the first that does nothing or meets want of memory
pub record Passed {X S : Type 0} (led : Config → List X → S → Type 0) (IsTick : Bool → X → Type 0) (refused : Bool)
    (old new : S) : Type 0 where
  pub calls : List X
  pub are : AreTicks IsTick refused calls
  pub moves : Moves led old calls new

module _ (addresses : Addresses) {X S : Type 0} (led : Config → List X → S → Type 0) (of : X → Entry) (tells : Config
    → List X → X → List Line)
    (at : ℕ) where
  -- These calls, and what the log tells of them.
  pub record Acts (calls : List X) (old : S) (log : Log) (new : S) (left : Log) : Type 0 where
    pub moves : Moves led old calls new
    pub given : left.given ≡ log.given ++ reverse (all_of (given_by addresses at) (map of calls))
    pub lines : (config : Config) (t : List X) → led config t old
        → left.lines ≡ log.lines ++ lines_upon (tells config) t calls

  -- It takes what is out, until there is none.
  pub record TakesAll {A : Type 0} (call : Option A → X) (old : S) (log : Log) (new : S) (left : Log) : Type 0 where
    pub taken : List A
    pub acts : Acts (all_taken call taken) old log new left

  -- ticks of a moment, and what they tell
  pub record Ticked (IsTick : Bool → X → Type 0) (refused : Bool) (old : S) (log : Log) (new : S)
      (left : Log) : Type 0 where
    pub calls : List X
    pub are : AreTicks IsTick refused calls
    pub acts : Acts calls old log new left

  -- an input, and what it tells
  pub record Taken (Is : X → Type 0) (refused : Bool) (old : S) (log : Log) (new : S) (left : Log) : Type 0 where
    pub calls : List X
    pub are : IsOne Is refused calls
    pub acts : Acts calls old log new left
