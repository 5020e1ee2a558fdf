-- Which reports a client gives: those that it made, in their order, each once, but for those of a forgotten observation
-- (RFC 7252, section 5.2).
use Rattle.std.specs.Prelude.{◌≡◌, ℕ, Bool, true, Option, Some, None, List, [], ◌∷◌, ◌++◌, filter, option_to_list}
use Rattle.coap_types.specs.Past.{Ever, Always}
use Rattle.coap_block.specs.Sizes.{Sizes}
use Rattle.coap_client.specs.Trace.{Reported, Call, Forgets, NextReport}
use Rattle.coap_client.specs.Steps.{reports}
use Rattle.coap_client.specs.Law.{own_of}

-- the reports that a call gives, and the observation that it forgets

abbrev pub reports_given : Call → List Reported
reports_given (NextReport (Some r)) = r ∷ []
reports_given c = []

abbrev pub forgotten : Call → Option ℕ
forgotten (Forgets number kept true) = Some number
forgotten c = None

-- the reports that were given, the oldest first
abbrev pub given : List Call → List Reported
given [] = []
given (c ∷ past) = given past ++ reports_given c

-- none of these reports is of a number that was forgotten
abbrev pub NoneForgotten : (Reported → Bool) → List Call → Type 0
NoneForgotten p t = (r : Reported) → p r ≡ true → Ever (λ c. forgotten c ≡ Some r.number) t → ⊥

module _ (sizes : Sizes) where
  -- .. and those that were made
  abbrev pub made : List Call → List Reported
  made [] = []
  made (c ∷ past) = made past ++ option_to_list (reports (own_of sizes past) c)

  -- What was given is a front of what was made, where none is of a forgotten number; the rest waits to be taken.
  abbrev pub GivesInOrder : List Call → Type 0
  GivesInOrder t = (p : Reported → Bool) → NoneForgotten p t
      → filter p (made t) ≡ filter p (given t) ++ filter p (own_of sizes t).reports

  -- No report waits as an observation is forgotten.
  abbrev pub NoneDropped : List Call → Type 0
  NoneDropped t = Always (λ past c. (number : ℕ) → forgotten c ≡ Some number → (own_of sizes past).reports ≡ []) t
