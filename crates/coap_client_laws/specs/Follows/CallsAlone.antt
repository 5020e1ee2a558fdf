-- What a client reports that observes nothing: only what becomes of its calls (RFC 7252, section 5.2; RFC 7641, section
-- 3).
use Rattle.std.specs.Prelude.{◌≡◌, Bool, true, false, Some, List, Ok}
use Rattle.coap_types.specs.Past.{Always}
use Rattle.coap_block.specs.Sizes.{Sizes}
use Rattle.coap_client.specs.Trace.{Report, Value, Ended, Cancelled, Reported, Call, Observes}
use Rattle.coap_client.specs.Own.{Operation, Calling}
use Rattle.coap_client.specs.Steps.{reports}
use Rattle.coap_client.specs.Law.{own_of}

-- no observation is taken (one that is refused may be called)

abbrev pub TakesNoObservation : Call → Type 0
TakesNoObservation (Observes now path (Ok number)) = ⊥
TakesNoObservation c = Unit {0}

abbrev pub NoneIsTaken : List Call → Type 0
NoneIsTaken trace = Always (λ past c. TakesNoObservation c) trace

-- these reports are of an observation
abbrev pub is_of_observation : Report → Bool
is_of_observation (Value sequence tag format body) = true
is_of_observation (Ended code) = true
is_of_observation Cancelled = true
is_of_observation report = false

abbrev pub is_call : Operation → Bool
is_call (Calling number r t) = true
is_call op = false

module _ (sizes : Sizes) where
  pub record IsAlone (past : List Call) (c : Call) : Type 0 where
    -- What runs is a call ..
    pub runs : (op : Operation) → (own_of sizes past).running ≡ Some op → is_call op ≡ true
    -- .. and no report is of an observation.
    pub tells : (x : Reported) → reports (own_of sizes past) c ≡ Some x → is_of_observation x.report ≡ false

  abbrev pub CallsAlone : List Call → Type 0
  CallsAlone trace = NoneIsTaken trace → Always IsAlone trace
