-- Who wins where several ask for one entity-tag of a path, or that it hold nothing (RFC 7252, sections 5.10.8.1 and
-- 5.10.8.2).
use Rattle.std.specs.Prelude.{◌≡◌, ◌==◌, ℕ, true, None, List, [], ◌∷◌, if◌then◌else◌}
use Rattle.coap_types.specs.CoapOption.{CoapOption}
use Rattle.coap_types.specs.Past.{Sometime, Always}
use Rattle.coap_types.specs.OptionValues.{has}
use Rattle.coap_types.specs.declared.option_number.TheConstants.{IF_MATCH as if_match, IF_NONE_MATCH as if_none_match}
use Rattle.coap_client.specs.Trace.{Request}
use Rattle.coap_server.specs.Follows.Serves.{Serving}
use Rattle.coap_server.specs.Serving.{is_applied}
use Rattle.coap_many.specs.Clients.{Client, Config, IsClient}
use Rattle.coap_many.specs.Entries.{Entry}
use Rattle.coap_many.specs.Words.{WasCalled, AppliesFor, ServesAt, holds_at}

-- the values of all options of a number, in order
abbrev pub values_of : ℕ → List CoapOption → List (List ℕ)
values_of number [] = []
values_of number (o ∷ os) = if o.number == number then o.value ∷ values_of number os else values_of number os

module _ (config : Config) where
  -- a request to this path is applied here, from whatever address, whose one If-Match is this tag
  pub record WinsHere (path : List (List ℕ)) (tag : List ℕ) (past : List Entry) (e : Entry) : Type 0 where
    pub request : Serving
    pub here : ServesAt config request past e
    pub applied : is_applied request.reply.code ≡ true
    pub path_is : request.question.path ≡ path
    pub condition : values_of if_match request.question.options ≡ tag ∷ []

  -- Of all requests whose one If-Match is one entity-tag of a path at most one is applied. (The empty If-Match is no
  -- entity-tag: it asks that something be there.)
  abbrev pub OneRequestWins : List Entry → Type 0
  OneRequestWins all = (path : List (List ℕ)) (tag : List ℕ) → (tag ≡ [] → ⊥)
      → Always (λ past e. WinsHere path tag past e → Sometime (WinsHere path tag) past → ⊥) all

  -- a request of the call is applied here, which has one If-Match, this tag
  pub record Wins (k : Client) (number : ℕ) (path : List (List ℕ)) (tag : List ℕ) (all past : List Entry) (e : Entry)
      : Type 0 where
    pub request : Request
    pub called : WasCalled k number request past
    pub path_is : request.path ≡ path
    pub condition : request.if_match ≡ tag ∷ []
    pub applies : AppliesFor config k number all past e

  -- Of all calls of all clients whose one If-Match is one entity-tag of a path at most one is applied.
  abbrev pub OneCallWins : List Entry → Type 0
  OneCallWins all = (k l : Client) → IsClient config k → IsClient config l
      → (m n : ℕ) (path : List (List ℕ)) (tag : List ℕ)
      → (tag ≡ [] → ⊥) → Sometime (Wins k m path tag all) all → Sometime (Wins l n path tag all) all → (k ≡ l) × (m ≡ n)

  -- A request that has If-None-Match is applied only where its path holds nothing, from whatever address it comes.
  abbrev pub RequestsMake : List Entry → Type 0
  RequestsMake all = Always (λ past e. (x : Serving) → ServesAt config x past e → is_applied x.reply.code ≡ true
      → has if_none_match x.question.options ≡ true → holds_at config x.question.path past ≡ None) all
