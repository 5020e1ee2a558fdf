-- How the operations stand in a slab, by their keys. No public clause cites this module.
use Rattle.std.specs.Prelude.{◌≡◌, ℕ, ◌+◌, ◌==◌, Bool, false, if◌then◌else◌, Option, Some, None, List, [], ◌∷◌}
use Rattle.coap_operations.specs.declared.entry.Entry.{Entry}
use Rattle.coap_operations.specs.declared.entry.Entry.TheVariants.{Operation, Observation}
use Rattle.coap_operations.specs.declared.queued.Queued.{Queued}
use Rattle.coap_operations.specs.declared.queued.Queued.TheVariants.{Starts, Cancels}
use Rattle.coap_operations.specs.declared.running.Running.{Running}
use Rattle.coap_operations.specs.declared.running.Running.TheVariants.{Started, Fetching, Cancelling, Dropped}

abbrev pub hit : ℕ → ℕ → ℕ
hit key k = if key == k then 1 else 0

-- how often a key is there

abbrev pub in_queue : ℕ → List (Queued ℕ) → ℕ
in_queue k [] = 0
in_queue k (Starts key ∷ qs) = hit key k + in_queue k qs
in_queue k (Cancels number ∷ qs) = in_queue k qs

abbrev pub in_running : ℕ → Option (Running ℕ) → ℕ
in_running k (Some (Started key)) = hit key k
in_running k other = 0

abbrev pub in_live : ℕ → List ℕ → ℕ
in_live k [] = 0
in_live k (key ∷ keys) = hit key k + in_live k keys

abbrev pub is_cancel_key : ℕ → Queued ℕ → Bool
is_cancel_key number (Starts key) = false
is_cancel_key number (Cancels other) = other == number

module _ {W O : Type 0} where
  -- how many operations and observations an entry is

  abbrev pub operations : Option (Entry W O) → ℕ
  operations (Some (Operation w)) = 1
  operations other = 0

  abbrev pub observations : Option (Entry W O) → ℕ
  observations (Some (Observation o)) = 1
  observations other = 0

  abbrev pub IsObservation : Entry W O → Type 0
  IsObservation e = (o : O) × (e ≡ Observation o)

  abbrev pub operation_in : Option (Entry W O) → Option W
  operation_in (Some (Operation w)) = Some w
  operation_in other = None

  abbrev pub observation_in : Option (Entry W O) → Option O
  observation_in (Some (Observation o)) = Some o
  observation_in other = None

  -- an entry in front of others

  abbrev pub waits_first : Option (Entry W O) → List (Queued W) → List (Queued W)
  waits_first (Some (Operation w)) qs = Starts w ∷ qs
  waits_first other qs = qs

  abbrev pub live_first : Option (Entry W O) → List O → List O
  live_first (Some (Observation o)) os = o ∷ os
  live_first other os = os

  abbrev pub started : Option (Entry W O) → Option (Running W)
  started (Some (Operation w)) = Some (Started w)
  started other = None

  -- what the keys stand for, by the entry that each finds

  abbrev pub queue_of : (ℕ → Option (Entry W O)) → List (Queued ℕ) → List (Queued W)
  queue_of at [] = []
  queue_of at (Starts key ∷ qs) = waits_first (at key) (queue_of at qs)
  queue_of at (Cancels number ∷ qs) = Cancels number ∷ queue_of at qs

  abbrev pub running_of : (ℕ → Option (Entry W O)) → Option (Running ℕ) → Option (Running W)
  running_of at None = None
  running_of at (Some (Started key)) = started (at key)
  running_of at (Some (Fetching number)) = Some (Fetching number)
  running_of at (Some (Cancelling number)) = Some (Cancelling number)
  running_of at (Some Dropped) = Some Dropped

  abbrev pub live_of : (ℕ → Option (Entry W O)) → List ℕ → List O
  live_of at [] = []
  live_of at (key ∷ keys) = live_first (at key) (live_of at keys)

  -- Each operation of the slab waits or runs, once, each observation of it is live, once, and no other key waits, runs
  -- or is live.
  pub record EachOnce (at : ℕ → Option (Entry W O)) (q : List (Queued ℕ)) (r : Option (Running ℕ))
      (l : List ℕ) : Type 0 where
    pub operation : (key : ℕ) → in_queue key q + in_running key r ≡ operations (at key)
    pub observation : (key : ℕ) → in_live key l ≡ observations (at key)
