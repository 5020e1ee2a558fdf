-- Where each number of a client is: it waits, runs or is live, or it was reported for the last time or forgotten (RFC
-- 7252, section 5.2; RFC 7641, section 3).
use Rattle.std.specs.Prelude.{◌≡◌, ℕ, ◌+◌, ◌==◌, nat_lt, true, Option, Some, None, List, [], ◌∷◌, if◌then◌else◌}
use Rattle.coap_block.specs.Sizes.{Sizes}
use Rattle.coap_client.specs.Trace.{is_value, Reported, Call, Forgets}
use Rattle.coap_client.specs.Own.{Operation, Calling, Registering, Fetching, Cancelling, Dropped}
use Rattle.coap_client.specs.Own.{Observation, Own}
use Rattle.coap_client.specs.Steps.{reports}
use Rattle.coap_client.specs.Law.{own_of}

-- how often a number is there

abbrev pub hit : ℕ → ℕ → ℕ
hit number n = if number == n then 1 else 0

abbrev pub in_op : ℕ → Operation → ℕ
in_op n (Calling number r t) = hit number n
in_op n (Registering number path) = hit number n
in_op n (Fetching number) = 0
in_op n (Cancelling number) = 0
in_op n Dropped = 0

abbrev pub in_running : ℕ → Option Operation → ℕ
in_running n None = 0
in_running n (Some op) = in_op n op

abbrev pub in_queue : ℕ → List Operation → ℕ
in_queue n [] = 0
in_queue n (op ∷ ops) = in_op n op + in_queue n ops

abbrev pub in_observations : ℕ → List Observation → ℕ
in_observations n [] = 0
in_observations n (o ∷ os) = hit o.number n + in_observations n os

abbrev pub places : ℕ → Own → ℕ
places n s = in_running n s.running + (in_queue n s.queue + in_observations n s.observations)

-- a last report, and the end of a forgotten observation

abbrev pub final_of : ℕ → Option Reported → ℕ
final_of n None = 0
final_of n (Some x) = if is_value x.report then 0 else hit x.number n

abbrev pub forgotten_by : ℕ → Call → ℕ
forgotten_by n (Forgets number kept true) = hit number n
forgotten_by n c = 0

module _ (sizes : Sizes) where
  abbrev pub gone : ℕ → List Call → ℕ
  gone n [] = 0
  gone n (c ∷ past) = final_of n (reports (own_of sizes past) c) + (forgotten_by n c + gone n past)

  -- each number that was given is in one place, and no other is in any
  abbrev pub InOnePlace : List Call → Type 0
  InOnePlace t = (n : ℕ) → places n (own_of sizes t) + gone n t ≡ (if nat_lt n (own_of sizes t).taken then 1 else 0)
