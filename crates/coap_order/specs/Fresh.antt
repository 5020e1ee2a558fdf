-- What a client reports in a run is not old, whatever the order of its calls: the server held it not long before (RFC
-- 7252, sections 4.8.2 and 5.10.6; RFC 7641, section 3.3.1).
use Rattle.std.specs.Prelude.{◌≤◌, ℕ, ◌+◌, Option, List, length}
use Rattle.coap_types.specs.Past.{Always, Sometime}
use Rattle.coap_client.specs.Trace.{Body, Valid, Value}
use Rattle.coap_promise.specs.Clocks.{Clocks}
use Rattle.coap_promise.specs.Held.{HeldSince, ValidSince, ValueSince}
use Rattle.coap_promise.specs.Words.{ReportsAt}
use Rattle.coap_record.specs.Events.{Config}
use Rattle.coap_record.specs.Record.{Entry}

module _ (config : Config) (c : Clocks) (max_age : ℕ) where
  -- Where the one is so, the other was so at a call before, at which the client's clock showed at most max_age less.
  abbrev pub IsFresh : (List Entry → Entry → Type 0) → (List Entry → Entry → Type 0) → List Entry → Type 0
  IsFresh Here Was run = Always (λ past e. Here past e → Sometime (λ before x. Was before x
      × (c.client (length past) ≤ c.client (length before) + max_age)) past) run

  -- Of each body, of each representation that is reported as valid, and of each value of an observation: it was held
  -- so. The report is made by the input that hears it; what waits in the client to be taken is older by its waiting.
  pub record AreFresh (run : List Entry) : Type 0 where
    pub bodies : (number : ℕ) (tag : Option (List ℕ)) (format : Option ℕ) (body : List ℕ)
        → IsFresh (ReportsAt config (record { number = number; report = Body tag format body }))
        (HeldSince config number tag format body) run
    pub valid : (number : ℕ) (tag : Option (List ℕ))
        → IsFresh (ReportsAt config (record { number = number; report = Valid tag })) (ValidSince config number tag) run
    pub values : (number sequence : ℕ) (tag : Option (List ℕ)) (format : Option ℕ) (body : List ℕ)
        → IsFresh (ReportsAt config (record { number = number; report = Value sequence tag format body }))
        (ValueSince config number sequence tag format body) run
