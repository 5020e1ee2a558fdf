-- The call that an event is.
use Rattle.std.specs.Prelude.{◌≡◌, ℕ, Bool, Option, List, Result}
use Rattle.coap_resource.specs.Content.{Content}
use Rattle.coap_resource.specs.declared.refusal.StoreRefusal.{StoreRefusal}
use Rattle.coap_client.specs.declared.refusals.CallRefusal.{CallRefusal}
use Rattle.coap_client.specs.declared.refusals.CancelRefusal.{CancelRefusal}
use Rattle.coap_client.specs.Trace as C
use Rattle.coap_server.specs.Trace as S

abbrev pub IsCall : ℕ → C.Request → C.Call → Type 0
IsCall at r c = (answer : Result ℕ CallRefusal) × (c ≡ C.Calls at r answer)

abbrev pub IsObservation : ℕ → List (List ℕ) → C.Call → Type 0
IsObservation at path c = (answer : Result ℕ CallRefusal) × (c ≡ C.Observes at path answer)

abbrev pub IsCancel : ℕ → ℕ → C.Call → Type 0
IsCancel at number c = (answer : Option CancelRefusal) × (c ≡ C.Cancels at number answer)

abbrev pub IsForgetting : ℕ → C.Call → Type 0
IsForgetting number c = (kept : Bool) × (answer : Bool) × (c ≡ C.Forgets number kept answer)

abbrev pub IsSet : ℕ → List (List ℕ) → Option ℕ → List ℕ → S.Call → Type 0
IsSet at path format body c = (answer : Result ℕ StoreRefusal) × (left : Content)
    × (c ≡ S.Sets at path format body answer left)

abbrev pub IsRemoval : ℕ → List (List ℕ) → S.Call → Type 0
IsRemoval at path c = (answer : Result Bool StoreRefusal) × (left : Content) × (c ≡ S.Removes at path answer left)
