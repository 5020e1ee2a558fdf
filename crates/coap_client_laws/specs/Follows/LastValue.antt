-- The last value of an observation, and of which notification it is (RFC 7641, sections 1.3 and 3.2).
use Rattle.std.specs.Prelude.{◌≡◌, ◌≤◌, ℕ, ◌==◌, Option, Some, None, List, [], ◌∷◌, length, if◌then◌else◌}
use Rattle.std.specs.Option.{option_map}
use Rattle.coap_types.specs.Past.{Always}
use Rattle.coap_block.specs.Sizes.{Sizes}
use Rattle.coap_client.specs.Trace.{is_value, Report, Reported, Value, Call}
use Rattle.coap_client.specs.Responses.{sequence_in, tag_in, format_in}
use Rattle.coap_client.specs.Steps.{reports}
use Rattle.coap_client.specs.Law.{own_of}
use Rattle.coap_client_laws.specs.Follows.Newer.{Newly, notifies}
use Rattle.coap_client_laws.specs.Follows.Notified.{newest}
use Rattle.coap_client_laws.specs.Follows.Noticed.{IsAllOf}

-- the value that a call reports of an observation

abbrev pub value_of : ℕ → Option Reported → Option Report
value_of number None = None
value_of number (Some r) = if r.number == number then (if is_value r.report then Some r.report else None) else None

abbrev pub or_before : Option Report → Option Report → Option Report
or_before (Some value) last = Some value
or_before None last = last

-- what a notification shows that has all of a representation
abbrev pub shown_by : Newly → Report
shown_by n = Value (sequence_in n.message) (tag_in n.message) (format_in n.message) n.message.payload

module _ (sizes : Sizes) where
  -- the value that was reported last
  abbrev pub last_value : ℕ → List Call → Option Report
  last_value number [] = None
  last_value number (c ∷ past) = or_before (value_of number (reports (own_of sizes past) c)) (last_value number past)

  -- Each notification that was taken of the observation has all of a representation that is within the limit.
  abbrev pub HaveAll : ℕ → List Call → Type 0
  HaveAll number trace = Always (λ past c. (n : Newly) → notifies (own_of sizes past) c ≡ Some n → n.number ≡ number
      → IsAllOf n.message × (length n.message.payload ≤ sizes.limit)) trace

  -- Then its last value is what the newest of them shows.
  abbrev pub LastIsNewest : List Call → Type 0
  LastIsNewest t = (number : ℕ) → HaveAll number t → last_value number t ≡ option_map shown_by (newest sizes number t)
