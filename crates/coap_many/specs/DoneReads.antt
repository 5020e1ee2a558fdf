-- What was done is read by whoever asks after its report.
use Rattle.std.specs.Prelude.{◌≡◌, ◌≤◌, ◌<◌, ℕ, ◌+◌, Option, Some, None, List, ◌∷◌}
use Rattle.coap_types.specs.Past.{Sometime, Always}
use Rattle.coap_resource.specs.Content.{Held}
use Rattle.coap_client.specs.Trace.{Request, Done}
use Rattle.coap_promise.specs.Applied.{Does}
use Rattle.coap_many.specs.Clients.{Client, Config, IsClient}
use Rattle.coap_many.specs.Entries.{Entry}
use Rattle.coap_many.specs.Words.{WasCalled, ReportsAt, AppliesFor, holds_at, changes_in}
use Rattle.coap_many.specs.Reads.{NotCalled, NotObserved, Reads, Tells}

-- success of this call, which asks this, is reported here
pub record IsDoneAt (k : Client) (number : ℕ) (r : Request) (past : List Entry) (e : Entry) : Type 0 where
  pub called : WasCalled k number r past
  pub code : ℕ
  pub here : ReportsAt k (record { number = number; report = Done code }) past e

-- a version is that of what was left, or a later one; where nothing was left, and so many changes were made by then, it
-- is that of a later change
abbrev pub IsNoOlder : Option Held → ℕ → ℕ → Type 0
IsNoOlder (Some held) made version = held.version ≤ version
IsNoOlder None made version = made < version

module _ (config : Config) where
  -- a request of the call is applied here, does what the call asks, and leaves what this version is no older than
  pub record LeavesNoNewer (k : Client) (number : ℕ) (r : Request) (version : ℕ) (all past : List Entry) (e : Entry)
      : Type 0 where
    pub applies : AppliesFor config k number all past e
    pub does : Does r.method r r.body (changes_in config past + 1) (holds_at config r.path past)
        (holds_at config r.path (e ∷ past))
    pub no_older : IsNoOlder (holds_at config r.path (e ∷ past)) (changes_in config (e ∷ past)) version

  -- What a call reads that was made after success of a change of that path was reported, by whichever client, is of the
  -- version that this made, or of a later one; after a removal, of a later one.
  abbrev pub ReadsWhatWasDone : List Entry → Type 0
  ReadsWhatWasDone all = (k l : Client) → IsClient config k → IsClient config l → (m n : ℕ) (r : Request) (version : ℕ)
      → Always (λ past e. Reads l n r.path version past e
      → Sometime (λ before b. IsDoneAt k m r before b × NotCalled l n (b ∷ before)) past
      → Sometime (LeavesNoNewer k m r version all) past) all

  -- .. and so are the values of an observation that was taken after it.
  abbrev pub ObservesWhatWasDone : List Entry → Type 0
  ObservesWhatWasDone all = (k l : Client) → IsClient config k → IsClient config l
      → (m n : ℕ) (r : Request) (version : ℕ)
      → Always (λ past e. Tells l n r.path version past e
      → Sometime (λ before b. IsDoneAt k m r before b × NotObserved l n (b ∷ before)) past
      → Sometime (LeavesNoNewer k m r version all) past) all
