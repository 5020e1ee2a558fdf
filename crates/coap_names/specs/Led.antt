-- What it means that calls lead to a table of names.
use Rattle.std.specs.Prelude.{◌≡◌, ℕ, List, [], ◌∷◌, Result, Ok, Err, Bool}
use Rattle.coap_types.specs.declared.endpoint.Endpoint.{Endpoint}
use Rattle.coap_names.specs.Trace.{Call, Answer, Entry, Named, Full, Spent}
use Rattle.coap_names.specs.Tables.{Setup, State, start}
use Rattle.coap_names.specs.Steps.{Step}
use Rattle.coap_names.specs.declared.names.NamesRefusal.{NamesRefusal}
use Rattle.coap_names.specs.declared.names.NamesRefusal.TheVariants as refusal

-- these calls, the newest first, can bring a table from the one state to the other: each is a step
abbrev pub Runs : {K : Type 0} → (K → K → Bool) → State K → List (Entry K) → State K → Type 0
Runs eq from [] s = s ≡ from
Runs {K} eq from (e ∷ past) s = (before : State K) × Runs eq from past before × Step eq before e.at e.call e.answer s

-- .. a table that began empty
abbrev pub Led : {K : Type 0} → (K → K → Bool) → Setup → List (Entry K) → State K → Type 0
Led eq setup t s = Runs eq (start setup) t s

-- what led to the table, and then this call, leads to the table as it is then
abbrev pub Leads : {K : Type 0} → (K → K → Bool) → State K → ℕ → Call K → Answer → State K → Type 0
Leads {K} eq old at call answer new =
    (setup : Setup) (t : List (Entry K)) → Led eq setup t old
    → Led eq setup (record { at = at; call = call; answer = answer } ∷ t) new

-- the answer of a call that was not refused memory
abbrev pub answer_as : Result Endpoint NamesRefusal → Answer
answer_as (Ok name) = Named name
answer_as (Err refusal.Full) = Full
answer_as (Err refusal.Spent) = Spent
answer_as (Err refusal.Memory) = Full
