-- What a client of many reports is not old, by its own clock (RFC 7252, section 4.8.2; RFC 7641, section 3.3.1).
use Rattle.std.specs.Prelude.{◌≡◌, ◌≤◌, ℕ, ◌+◌, Option, Some, List, ◌∷◌, ◌++◌, length}
use Rattle.coap_types.specs.Past.{Sometime, Always}
use Rattle.coap_types.specs.declared.transmission.TheConstants.{EXCHANGE_LIFETIME_MS as exchange_lifetime}
use Rattle.coap_layer.specs.Clocks.{max_gain}
use Rattle.coap_observe.specs.Versions.{sequence_number}
use Rattle.coap_resource.specs.RequestOptions.{tag_of}
use Rattle.coap_client_laws.specs.Follows.OfObservations as O
use Rattle.coap_client.specs.Trace.{Body, Valid, Value}
use Rattle.coap_many.specs.Clients.{Client, Config, IsClient}
use Rattle.coap_many.specs.Clocks.{Clocks}
use Rattle.coap_many.specs.Entries.{Entry, Turn, client_of, entries_of}
use Rattle.coap_many.specs.Points.{Effect}
use Rattle.coap_many.specs.Words.{ReportsAt, last_at}

-- one of the turn's entries is so, after all entries before it
abbrev pub Has : (List Entry → Entry → Type 0) → List Turn → Turn → Type 0
Has P before turn = Sometime (λ earlier e. P (earlier ++ entries_of before) e) turn.entries

module _ (config : Config) (k : Client) where
  -- the observation was taken before; here its path holds this, under the version that sequence number and tag name
  pub record ShowsValue (number sequence : ℕ) (tag : Option (List ℕ)) (format : Option ℕ) (body : List ℕ)
      (past : List Entry) (e : Entry) : Type 0 where
    pub path : List (List ℕ)
    pub observed : O.WasObserved (record { number = number; path = path }) (client_of k.at past)
    pub version : ℕ
    pub sequence_is : sequence ≡ sequence_number version
    pub tag_is : tag ≡ Some (tag_of version)
    pub there : last_at config path (e ∷ past) ≡ Some (record { version = version; format = format; body = body })

  module _ (c : Clocks) where
    -- Where the one is so, the other was so at an event before, at which the client's own clock showed at most 252,000
    -- ms less.
    abbrev pub IsFresh : (List Entry → Entry → Type 0) → (List Entry → Entry → Type 0) → List Turn → Type 0
    IsFresh Here Was turns =
        Always (λ past turn. Has Here past turn → Sometime (λ before other. Has Was before other
        × (c.clients k.at (length past) ≤ c.clients k.at (length before) + (exchange_lifetime + max_gain))) past) turns

    -- Of each body, of each representation that is reported as valid, and of each value of an observation: it was held
    -- so.
    pub record AreFresh (turns : List Turn) : Type 0 where
      pub bodies : (number : ℕ) (tag : Option (List ℕ)) (format : Option ℕ) (body : List ℕ)
          → IsFresh (ReportsAt k (record { number = number; report = Body tag format body }))
          (Effect config k number (Body tag format body) (entries_of turns)) turns
      pub valid : (number : ℕ) (tag : Option (List ℕ))
          → IsFresh (ReportsAt k (record { number = number; report = Valid tag }))
          (Effect config k number (Valid tag) (entries_of turns)) turns
      pub values : (number sequence : ℕ) (tag : Option (List ℕ)) (format : Option ℕ) (body : List ℕ)
          → IsFresh (ReportsAt k (record { number = number; report = Value sequence tag format body }))
          (ShowsValue number sequence tag format body) turns

abbrev pub EachIsFresh : Clocks → Config → List Turn → Type 0
EachIsFresh c config turns = (k : Client) → IsClient config k → AreFresh config k c turns
