-- What is promised of the record of a legal run of many.
use Rattle.std.specs.Prelude.{◌≡◌, ◌⊎◌, ℕ, true, List}
use Rattle.coap_types.specs.Past.{Always}
use Rattle.coap_server.specs.Serving.{is_applied}
use Rattle.coap_server.specs.Follows.Serves.{Serving}
use Rattle.coap_promise.specs.Agrees as W
use Rattle.coap_promise.specs.Bounds as W_bounds
use Rattle.coap_many.specs.Clients.{Client, Config, IsClient, IsOfClient, world_of}
use Rattle.coap_many.specs.Entries.{Entry}
use Rattle.coap_many.specs.View.{view_entries}
use Rattle.coap_many.specs.Words.{ServesAt, SentFor}

module _ (config : Config) where
  -- Of what each client and the server see all is promised that is promised of one client and a server.
  abbrev pub EachAgrees : List Entry → Type 0
  EachAgrees all = (k : Client) → IsClient config k → W.Agrees (world_of config k) (view_entries k.at all)

  abbrev pub EachIsBounded : List Entry → Type 0
  EachIsBounded all = (k : Client) → IsClient config k → W_bounds.AreBounded (world_of config k) (view_entries k.at all)

  -- it is this call's of this client
  abbrev pub IsOf : Serving → List Entry → Client → ℕ → Type 0
  IsOf x all k number = IsClient config k × (x.asked.from ≡ k.at) × SentFor k number x.asked.token all

  -- Each applied request is of exactly one call of exactly one client, or its address is no client's.
  pub record IsOwned (x : Serving) (all : List Entry) : Type 0 where
    pub of : (IsOfClient config x.asked.from → ⊥) ⊎ ((k : Client) × (number : ℕ) × IsOf x all k number)
    pub one : (k l : Client) (m n : ℕ) → IsOf x all k m → IsOf x all l n → (k ≡ l) × (m ≡ n)

  abbrev pub AllOwned : List Entry → Type 0
  AllOwned all = Always (λ past e. (x : Serving) → ServesAt config x past e → is_applied x.reply.code ≡ true
      → IsOwned x all) all
