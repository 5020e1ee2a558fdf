-- What is sent for an observation asks for the path that is observed (RFC 7641, sections 2 and 3.6; RFC 7959, section
-- 2.6).
use Rattle.std.specs.Prelude.{◌≡◌, ℕ, Option, Some, None, List, ◌∷◌, ◌++◌, Ok}
use Rattle.coap_types.specs.Past.{Ever, Always}
use Rattle.coap_types.specs.CoapOption.{option}
use Rattle.coap_types.specs.Uint.{uint}
use Rattle.coap_types.specs.declared.option_number.TheConstants.{OBSERVE as observe}
use Rattle.coap_block.specs.Sizes.{Sizes}
use Rattle.coap_block.specs.declared.fetch_progress.Asked.{Asked}
use Rattle.coap_client.specs.Trace.{Call, Observes}
use Rattle.coap_client.specs.Own.{Operation, Calling, Registering, Fetching, Cancelling, Dropped}
use Rattle.coap_client.specs.Requests.{path_options, block2_option, get}
use Rattle.coap_client.specs.Law.{own_of}
use Rattle.coap_client.specs.Sendings.{Sending, sends}
use Rattle.coap_client_laws.specs.Follows.Notified.{WasRegistered}

-- an observation that is taken
pub record Observed : Type 0 where
  pub number : ℕ
  pub path : List (List ℕ)

abbrev pub observes : Call → Option Observed
observes (Observes now path (Ok number)) = Some (record { number = number; path = path })
observes c = None

abbrev pub WasObserved : Observed → List Call → Type 0
WasObserved x t = Ever (λ c. observes c ≡ Some x) t

-- the observation that an operation is for
abbrev pub observation_for : Operation → Option ℕ
observation_for (Registering number path) = Some number
observation_for (Fetching number) = Some number
observation_for (Cancelling number) = Some number
observation_for op = None

module _ (sizes : Sizes) where
  -- A registration has Observe 0; a fetch asks for a block alone; a cancel has Observe 1, and the token of the
  -- registration.
  abbrev pub AsksFor : Operation → List (List ℕ) → Sending → List Call → Type 0
  AsksFor (Registering number p) path x past = (p ≡ path)
      × (x.request ≡ get None (option observe (uint 0) ∷ path_options path))
  AsksFor (Fetching number) path x past = (block : Asked)
      × (x.request ≡ get None (path_options path ++ block2_option (Some block)))
  AsksFor (Cancelling number) path x past = (x.request
      ≡ get (Some x.token) (option observe (uint 1) ∷ path_options path)) × WasRegistered sizes number x.token past
  AsksFor (Calling number r t) path x past = ⊥
  AsksFor Dropped path x past = ⊥

  -- The observation was taken before, and its path is asked for.
  pub record IsOfObservation (number : ℕ) (x : Sending) (past : List Call) : Type 0 where
    pub path : List (List ℕ)
    pub taken : WasObserved (record { number = number; path = path }) past
    pub asks : AsksFor x.operation path x past

  abbrev pub AreOfObservations : List Call → Type 0
  AreOfObservations trace = Always (λ past c. (x : Sending) (number : ℕ) → sends (own_of sizes past) c ≡ Some x
      → observation_for x.operation ≡ Some number → IsOfObservation number x past) trace
