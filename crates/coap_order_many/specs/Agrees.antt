-- What is promised of a legal run of many, in whatever order its calls are made.
use Rattle.std.specs.Prelude.{◌≡◌, ◌≤◌, ℕ, ◌+◌, Option, List, length}
use Rattle.coap_types.specs.Past.{Always, Sometime}
use Rattle.coap_types.specs.declared.transmission.TheConstants.{EXCHANGE_LIFETIME_MS as exchange_lifetime}
use Rattle.coap_layer.specs.Clocks.{max_gain}
use Rattle.coap_client.specs.Trace.{Body, Valid, Value}
use Rattle.coap_many.specs.Clients.{Client, Config, IsClient, world_of}
use Rattle.coap_many.specs.Clocks.{Clocks}
use Rattle.coap_many.specs.Entries.{Entry}
use Rattle.coap_many.specs.Fresh.{ShowsValue}
use Rattle.coap_many.specs.Points.{Effect}
use Rattle.coap_many.specs.View.{view_entries}
use Rattle.coap_many.specs.Words.{ReportsAt}
use Rattle.coap_order.specs.Agrees.{Agrees}
use Rattle.coap_order_many.specs.Run.{LegalRun, RunOf}

-- of what each client and the server see all is promised that is promised of one client and a server
abbrev pub EachAgrees : Config → List Entry → Type 0
EachAgrees config run = (k : Client) → IsClient config k → Agrees (world_of config k) (view_entries k.at run)

module _ (c : Clocks) (config : Config) (k : Client) (run : List Entry) where
  -- Where the one is so, the other was so at a call before, at which the client's own clock showed at most 252,000 ms
  -- less.
  abbrev pub IsFresh : (List Entry → Entry → Type 0) → (List Entry → Entry → Type 0) → Type 0
  IsFresh Here Was = Always (λ past e. Here past e → Sometime (λ before x. Was before x
      × (c.clients k.at (length past) ≤ c.clients k.at (length before) + (exchange_lifetime + max_gain))) past) run

  pub record AreFresh : Type 0 where
    pub bodies : (number : ℕ) (tag : Option (List ℕ)) (format : Option ℕ) (body : List ℕ)
        → IsFresh (ReportsAt k (record { number = number; report = Body tag format body }))
        (Effect config k number (Body tag format body) run)
    pub valid : (number : ℕ) (tag : Option (List ℕ))
        → IsFresh (ReportsAt k (record { number = number; report = Valid tag })) (Effect config k number
        (Valid tag) run)
    pub values : (number sequence : ℕ) (tag : Option (List ℕ)) (format : Option ℕ) (body : List ℕ)
        → IsFresh (ReportsAt k (record { number = number; report = Value sequence tag format body }))
        (ShowsValue config k number sequence tag format body)

abbrev pub EachIsFresh : Clocks → Config → List Entry → Type 0
EachIsFresh c config run = (k : Client) → IsClient config k → AreFresh c config k run

-- it holds of each legal run
abbrev pub InRuns : (Config → List Entry → Type 0) → Type 0
InRuns Holds = (c : Clocks) (config : Config) (run : List Entry) → RunOf config run → LegalRun config c run
    → Holds config run
