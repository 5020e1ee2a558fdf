-- Which observation it is that a request is for, by its token, and which path it asks for.
use Rattle.std.proofs.Common.{◌≡◌, ◌⊎◌, inl, inr, ℕ, Some, List, [], ◌∷◌, ap, sym, ◌∙◌}
use Rattle.coap_types.specs.RequestPath.{path_of}
use Rattle.coap_block.specs.Sizes.{Sizes}
use Rattle.coap_client_laws.specs.Follows.Begins.{WasSent}
use Rattle.coap_client_laws.specs.Follows.OfObservations.{AsksFor, AreOfObservations, observation_for}
use Rattle.coap_client_laws.specs.Follows.OfObservations as of
use Rattle.coap_client.specs.Own.{Operation, Registering, Fetching, Cancelling}
use Rattle.coap_client_laws.specs.Follows.Tokens.{Deregisters}
use Rattle.coap_client.specs.Trace as C
use Rattle.coap_client.specs.Sendings.{Sending}
use Rattle.coap_client_laws.proofs.Facts.Laws as client_facts
use Rattle.coap_client_laws.proofs.Facts.EachCall.{are_of_observations}
use Rattle.coap_record.specs.Events.{Config}
use Rattle.coap_record.specs.Record.{Entry, client_of}
use Rattle.coap_promise.proofs.Any.Requests.OfACall.{Lawful}
use Rattle.coap_promise.specs.Held.{WasObserved}
use Rattle.coap_promise.proofs.Facts.Reports.PathRead.{path_of_observe, path_of_fetch}

module _ (sizes : Sizes) (path : List (List ℕ)) (x : Sending) (past : List C.Call) where
  asked_path : (op : Operation) → AsksFor sizes op path x past → path_of x.request.options ≡ path
  asked_path (Registering n p) h = ap (λ r. path_of r.options) h.1 ∙ path_of_observe 0 path
  asked_path (Fetching n) h = ap (λ r. path_of r.options) h.1 ∙ path_of_fetch path (Some h.0)
  asked_path (Cancelling n) h = ap (λ r. path_of r.options) h.0 ∙ path_of_observe 1 path
  asked_path _ h = absurd h

-- the path that is asked for is that of the observation, which was taken before
record IsOf (number : ℕ) (x : Sending) (t : List C.Call) : Type 0 where
  path : List (List ℕ)
  taken : of.WasObserved (record { number = number; path = path }) t
  asks : path_of x.request.options ≡ path

of_at : (sizes : Sizes) (t : List C.Call) → AreOfObservations sizes t → (x : Sending) (number : ℕ) → WasSent sizes x t
    → observation_for x.operation ≡ Some number → IsOf number x t
of_at sizes [] law x number h is = absurd h
of_at sizes (c ∷ t) law x number (inl h) is = let k =
    law.0 x number h is in record {
      path = k.path;
      taken = inr k.taken;
      asks = asked_path sizes k.path x t x.operation k.asks;
    }
of_at sizes (c ∷ t) law x number (inr h) is = let k =
    of_at sizes t law.1 x number h is in record { path = k.path; taken = inr k.taken; asks = k.asks }

numbered_alike : (x y : Sending) (number : ℕ) → Deregisters x y → observation_for y.operation ≡ Some number
    → observation_for x.operation ≡ Some number
numbered_alike x y number d is = ap observation_for d.registers ∙ (sym (ap observation_for d.cancels) ∙ is)

numbered_behind : (x y : Sending) (number : ℕ) → Deregisters y x → observation_for y.operation ≡ Some number
    → observation_for x.operation ≡ Some number
numbered_behind x y number d is = ap observation_for d.cancels ∙ (sym (ap observation_for d.registers) ∙ is)

module _ (config : Config) where
  pub record OfObservation (number : ℕ) (x : Sending) (w : List Entry) : Type 0 where
    pub path : List (List ℕ)
    pub observed : WasObserved number path w
    pub asks : path_of x.request.options ≡ path

  pub of_observation : (number : ℕ) (x : Sending) (w : List Entry) → Lawful config w
      → WasSent config.client_sizes x (client_of w) → observation_for x.operation ≡ Some number
      → OfObservation number x w
  of_observation number x w law sent is =
      let k = of_at config.client_sizes (client_of w)
      (are_of_observations config.client_sizes config.addresses.server config.client_setup (client_of w) law.client) x
      number sent
      is in
      record { path = k.path; observed = k.taken; asks = k.asks }

  -- one token of an observation, one path
  pub one_of_observation : (all : List Entry) → Lawful config all → (x y : Sending) (number : ℕ)
      → WasSent config.client_sizes x (client_of all) → WasSent config.client_sizes y (client_of all)
      → observation_for y.operation ≡ Some number → x.token ≡ y.token → observation_for x.operation ≡ Some number
  one_of_observation all law x y number sent there is token =
      by (client_facts.tokens config.addresses.server config.client_sizes config.client_setup
      (client_of all) law.client x y sent there token)
    where
      by : (x ≡ y) ⊎ (Deregisters x y ⊎ Deregisters y x) → observation_for x.operation ≡ Some number
      by (inl same) = ap (λ (z : Sending). observation_for z.operation) same ∙ is
      by (inr (inl d)) = numbered_alike x y number d is
      by (inr (inr d)) = numbered_behind x y number d is
