-- Which calls, observations and cancels a client takes, and what waits for its turn, in words on its trace (RFC 7252,
-- section 5.2; RFC 7641, section 3; the bounds are a profile).
use Rattle.std.specs.Prelude.{◌≡◌, ℕ, ◌+◌, ◌==◌, nat_le, nat_lt, ◌||◌, not, Bool, true, false, Option, Some, None}
use Rattle.std.specs.Prelude.{is_some, List, [], ◌∷◌, ◌++◌, drop, filter}
use Rattle.std.specs.Prelude.{length, Result, Ok, Err, if◌then◌else◌}
use Rattle.std.specs.Option.{option_map}
use Rattle.coap_types.specs.Past.{Always}
use Rattle.coap_types.specs.declared.option_number.TheConstants.{BLOCK2 as block2}
use Rattle.coap_block.specs.Sizes.{Sizes}
use Rattle.coap_client.specs.declared.limits.TheConstants.{MAX_WAITING_CALLS as max_waiting}
use Rattle.coap_client.specs.declared.limits.TheConstants.{MAX_OBSERVATIONS as max_observations}
use Rattle.coap_client.specs.declared.refusals.CallRefusal.{CallRefusal}
use Rattle.coap_client.specs.declared.refusals.CallRefusal.TheVariants.{QueueFull, BodyTooLarge, BadPath, WatchesFull}
use Rattle.coap_client.specs.declared.refusals.CallRefusal.TheVariants.{CallsSpent}
use Rattle.coap_client.specs.declared.refusals.CancelRefusal.{CancelRefusal}
use Rattle.coap_client.specs.declared.refusals.CancelRefusal.TheVariants as cancel
use Rattle.coap_client.specs.Observations.{is_live, is_cancelled}
use Rattle.coap_client.specs.Trace.{is_value, Request, Reported, Call, Calls, Observes, Cancels}
use Rattle.coap_client.specs.Trace.{Forgets}
use Rattle.coap_client.specs.Trace.{Ticks}
use Rattle.coap_client.specs.Own.{Operation, Calling, Registering, Fetching, Cancelling, Dropped, Own}
use Rattle.coap_client_laws.specs.Follows.Numbers.{number_given}
use Rattle.coap_client.specs.Queue.{max_numbers, are_long, block_option_number, observed}
use Rattle.coap_client.specs.Requests.{path_options, options_of}
use Rattle.coap_client.specs.Steps.{reports}
use Rattle.coap_client.specs.Law.{own_of}
use Rattle.coap_client.specs.Sendings.{sends}
use Rattle.coap_client_laws.specs.Follows.Ends.{Unsent, unsent}

-- what waits: a call, the registration of an observation, the cancel of one
pub data Waiting : Type 0 where
  ACall : (number : ℕ) → Waiting
  ARegistration : (number : ℕ) → Waiting
  ACancel : (number : ℕ) → Waiting

abbrev pub waiting_of : Operation → Option Waiting
waiting_of (Calling number r t) = Some (ACall number)
waiting_of (Registering number path) = Some (ARegistration number)
waiting_of (Cancelling number) = Some (ACancel number)
waiting_of (Fetching number) = None
waiting_of Dropped = None

-- what is taken waits
abbrev pub added : Call → List Waiting
added (Calls now r (Ok number)) = ACall number ∷ []
added (Observes now path (Ok number)) = ARegistration number ∷ []
added (Cancels now number None) = ACancel number ∷ []
added c = []

-- the operation whose request is asked for, whether it is sent or can't be
abbrev pub asked_for : Own → Call → Option Operation
asked_for s c = elim (sends s c) [
  | Some x ↦ Some x.operation
  | None ↦ option_map (λ (u : Unsent). u.operation)
      (unsent s c)
]

-- at a tick one that waits starts
abbrev pub is_turn : Option Operation → Bool
is_turn None = false
is_turn (Some op) = is_some (waiting_of op)

abbrev pub starts : Own → Call → Bool
starts s (Ticks now word below turn sent token kept answer) =
    is_turn (asked_for s (Ticks now word below turn sent token kept answer))
starts s c = false

-- the number that has its last report, or is forgotten: its cancel waits no more

abbrev pub last_of : Option Reported → Option ℕ
last_of None = None
last_of (Some x) = if is_value x.report then None else Some x.number

abbrev pub over_in : Own → Call → Option ℕ
over_in s (Forgets number kept true) = Some number
over_in s c = last_of (reports s c)

abbrev pub is_cancel : ℕ → Waiting → Bool
is_cancel n (ACancel number) = number == n
is_cancel n w = false

abbrev pub without : Option ℕ → List Waiting → List Waiting
without None ws = ws
without (Some n) ws = filter (λ w. not (is_cancel n w)) ws

-- how many numbers were given
abbrev pub numbers_in : List Call → ℕ
numbers_in [] = 0
numbers_in (c ∷ past) = (if is_some (number_given c) then 1 else 0) + numbers_in past

module _ (sizes : Sizes) where
  -- what waits, in the order in which it was taken
  abbrev pub waiting_in : List Call → List Waiting
  waiting_in [] = []
  waiting_in (c ∷ past) = without (over_in (own_of sizes past) c)
      (if starts (own_of sizes past) c then drop 1 (waiting_in past) else waiting_in past) ++ added c

  abbrev pub next_number : List Call → Result ℕ CallRefusal
  next_number past = if numbers_in past == max_numbers then Err CallsSpent else Ok (numbers_in past)

  -- A call is refused where so many wait, where its body is longer than the limit, where its options are too long for
  -- a message, and where no number is left; else it has the next number. The first that holds decides.
  abbrev pub taking_of : List Call → Request → Result ℕ CallRefusal
  taking_of past r =
      if nat_le max_waiting (length (waiting_in past)) then Err QueueFull
      else (if nat_lt sizes.limit (length r.body) then Err BodyTooLarge
      else (if are_long (block_option_number r.method) (options_of r) then Err BadPath
      else next_number past))

  -- .. and an observation also where so many observations wait, run or are live
  abbrev pub observing_of : List Call → List (List ℕ) → Result ℕ CallRefusal
  observing_of past path =
      if nat_le max_waiting (length (waiting_in past)) then Err QueueFull
      else (if are_long block2 (path_options path) then Err BadPath
      else (if nat_le max_observations (observed (own_of sizes past)) then Err WatchesFull
      else next_number past))

  -- A cancel is refused where its observation is not live or is cancelled already, and where so many wait.
  abbrev pub cancelling_of : List Call → ℕ → Option CancelRefusal
  cancelling_of past number =
      if not (is_live number (own_of sizes past)) || is_cancelled number (own_of sizes past) then Some cancel.Unknown
      else (if nat_le max_waiting (length (waiting_in past)) then Some cancel.QueueFull
      else None)

  -- what starts is the first that waits
  pub record StartsFirst (past : List Call) (c : Call) : Type 0 where
    pub operation : Operation
    pub asked : asked_for (own_of sizes past) c ≡ Some operation
    pub first : Waiting
    pub is : waiting_of operation ≡ Some first
    pub rest : List Waiting
    pub waits : waiting_in past ≡ first ∷ rest

  pub record TakesRight (past : List Call) (c : Call) : Type 0 where
    pub calls : (now : ℕ) (r : Request) (answer : Result ℕ CallRefusal) → c ≡ Calls now r answer
        → answer ≡ taking_of past r
    pub observes : (now : ℕ) (path : List (List ℕ)) (answer : Result ℕ CallRefusal) → c ≡ Observes now path answer
        → answer ≡ observing_of past path
    pub cancels : (now number : ℕ) (answer : Option CancelRefusal) → c ≡ Cancels now number answer
        → answer ≡ cancelling_of past number
    pub in_order : starts (own_of sizes past) c ≡ true → StartsFirst past c

  abbrev pub AllTaken : List Call → Type 0
  AllTaken t = Always TakesRight t
