-- What a client's operations are seen as.
use Rattle.std.specs.Prelude.{ℕ, ◌==◌, Bool, false, if◌then◌else◌, Option, Some, None, List, [], ◌∷◌}
use Rattle.coap_operations.specs.declared.queued.Queued.{Queued}
use Rattle.coap_operations.specs.declared.queued.Queued.TheVariants.{Starts, Cancels}
use Rattle.coap_operations.specs.declared.running.Running.{Running}
use Rattle.coap_operations.specs.declared.running.Running.TheVariants.{Started, Fetching, Cancelling, Dropped}

-- what waits, in order; what runs; the live observations, in the order in which they went live; how many more
-- operations and observations need no memory, and how many observations are listed in the memory that is there
pub record Listed (W O : Type 0) : Type 0 where
  pub queue : List (Queued W)
  pub running : Option (Running W)
  pub live : List O
  pub spare : ℕ
  pub places : ℕ

module _ {W : Type 0} where
  -- the cancel of the observation of that number
  abbrev pub is_cancel : ℕ → Queued W → Bool
  is_cancel number (Starts w) = false
  is_cancel number (Cancels other) = other == number

  -- what waits runs

  abbrev pub runs : Queued W → Running W
  runs (Starts w) = Started w
  runs (Cancels number) = Cancelling number

  abbrev pub first_runs : List (Queued W) → Option (Running W)
  first_runs [] = None
  first_runs (q ∷ qs) = Some (runs q)

  -- the fetch for the observation of that number no longer counts
  abbrev pub without_fetch : ℕ → Option (Running W) → Option (Running W)
  without_fetch number (Some (Fetching other)) = if other == number then Some Dropped else Some (Fetching other)
  without_fetch number other = other

module _ {W V : Type 0} (f : W → V) where
  abbrev pub queued_map : Queued W → Queued V
  queued_map (Starts w) = Starts (f w)
  queued_map (Cancels number) = Cancels number

  abbrev pub running_map : Running W → Running V
  running_map (Started w) = Started (f w)
  running_map (Fetching number) = Fetching number
  running_map (Cancelling number) = Cancelling number
  running_map Dropped = Dropped
