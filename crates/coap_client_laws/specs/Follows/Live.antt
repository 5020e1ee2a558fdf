-- Which observations of a client are live, and where each is that was taken (RFC 7641, sections 3.1 to 3.6).
use Rattle.std.specs.Prelude.{◌≡◌, ◌⊎◌, ℕ, true, Option, Some, None, List, ◌∷◌}
use Rattle.coap_types.specs.Past.{Ever, Always}
use Rattle.coap_types.specs.declared.endpoint.Endpoint.{Endpoint}
use Rattle.coap_layer.specs.declared.setup.Setup.{Setup}
use Rattle.coap_block.specs.Sizes.{Sizes}
use Rattle.coap_exchange.specs.AskerLaw as X
use Rattle.coap_exchange.specs.Tokens.{is_kept}
use Rattle.coap_client.specs.Trace.{is_value, Report, Call, Cancels}
use Rattle.coap_client.specs.Own.{Registering, Cancelling, Observation}
use Rattle.coap_client.specs.Observations.{observation_of}
use Rattle.coap_client.specs.Effects.{of}
use Rattle.coap_client.specs.Steps.{reports}
use Rattle.coap_client.specs.Law.{own_of, lower_of}
use Rattle.coap_client_laws.specs.Follows.Answered.{HasReport}
use Rattle.coap_client_laws.specs.Follows.Ended.{WasForgotten}
use Rattle.coap_client_laws.specs.Follows.Gives.{forgotten}
use Rattle.coap_client_laws.specs.Follows.Begins.{WasSent}
use Rattle.coap_client_laws.specs.Follows.Newer.{Newly}
use Rattle.coap_client_laws.specs.Follows.Notified.{newest, WasRegistered}
use Rattle.coap_client_laws.specs.Follows.OfObservations.{Observed, WasObserved}
use Rattle.coap_client.specs.Sendings.{Sending}

-- the observation whose cancel is taken
abbrev pub cancels : Call → Option ℕ
cancels (Cancels now number None) = Some number
cancels c = None

module _ (sizes : Sizes) where
  -- A cancel that runs was taken.
  abbrev pub CancelsAreTaken : List Call → Type 0
  CancelsAreTaken t = (number : ℕ) → (own_of sizes t).running ≡ Some (Cancelling number)
      → Ever (λ c. cancels c ≡ Some number) t

  -- the observation of this number is live: of this path, under this token
  pub record IsLive (number : ℕ) (path : List (List ℕ)) (token : List ℕ) (t : List Call) : Type 0 where
    pub observation : Observation
    pub found : observation_of number (own_of sizes t).observations ≡ Some observation
    pub path_is : observation.path ≡ path
    pub token_is : observation.token ≡ token

  -- It stays so until it is forgotten, or a report of it is made that is no value.
  abbrev pub StayLive : List Call → Type 0
  StayLive trace =
      Always (λ past c. (number : ℕ) (path : List (List ℕ)) (token : List ℕ) → IsLive number path token past
      → (forgotten c ≡ Some number → ⊥)
      → ((report : Report) → reports (own_of sizes past) c ≡ of number report → is_value report ≡ true)
      → IsLive number path token (c ∷ past)) trace

  -- The registration of an observation is sent once ..
  abbrev pub RegisteredOnce : List Call → Type 0
  RegisteredOnce t =
      (x y : Sending) (number : ℕ) (p q : List (List ℕ)) → WasSent sizes x t → WasSent sizes y t
      → x.operation ≡ Registering number p → y.operation ≡ Registering number q → x ≡ y

  -- .. and under its token the observation is live.
  abbrev pub HaveTokens : List Call → Type 0
  HaveTokens t = (number : ℕ) (path : List (List ℕ)) (token : List ℕ) → IsLive number path token t
      → WasRegistered sizes number token t

  -- the registration of the observation waits, or runs, or the observation is live
  abbrev pub IsThere : ℕ → List (List ℕ) → List Call → Type 0
  IsThere number path t =
      Ever (λ op. op ≡ Registering number path) (own_of sizes t).queue
      ⊎ (((own_of sizes t).running ≡ Some (Registering number path))
      ⊎ ((token : List ℕ) × IsLive number path token t))

  module _ (server : Endpoint) (setup : Setup) where
    -- So is each that was taken, was not forgotten, and has no last report.
    abbrev pub AreThere : List Call → Type 0
    AreThere t = (x : Observed) → WasObserved x t → (WasForgotten x.number t → ⊥)
        → (HasReport server sizes setup x.number t → ⊥) → IsThere x.number x.path t

    -- .. and, where a notification of it was taken, it is live, under the token of that.
    abbrev pub AreWatched : List Call → Type 0
    AreWatched t =
        (x : Observed) (n : Newly) → WasObserved x t → newest sizes x.number t ≡ Some n
        → (WasForgotten x.number t → ⊥) → (HasReport server sizes setup x.number t → ⊥)
        → IsLive x.number x.path n.message.token t

    -- The exchanges keep the token of each that is live.
    abbrev pub TokensAreKept : List Call → Type 0
    TokensAreKept t =
        (number : ℕ) (path : List (List ℕ)) (token : List ℕ) → IsLive number path token t
        → is_kept token (X.own_of server setup (lower_of sizes t)).kept ≡ true
