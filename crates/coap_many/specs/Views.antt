-- What one client and the server see of a run of many is a run.
use Rattle.std.specs.Prelude.{◌≡◌, List, map}
use Rattle.coap_promise.specs.Clocks as by_clocks
use Rattle.coap_record.specs.Record as W
use Rattle.coap_many.specs.Clients.{Client, Config, IsClient, world_of}
use Rattle.coap_many.specs.Clocks.{Clocks, seen_at}
use Rattle.coap_many.specs.Events.{Event}
use Rattle.coap_many.specs.Entries.{Turn, entries_of}
use Rattle.coap_many.specs.GoesOn.{OfRecords}
use Rattle.coap_many.specs.Record.{RecordOf}
use Rattle.coap_many.specs.Legal.{Legal}
use Rattle.coap_many.specs.View.{view, view_entries}
use Rattle.coap_many.specs.Place.{place}

-- What one client and the server see of a record of many is a record of the world of the two, and its entries are
-- theirs, in the order of the run.
pub record IsSeen (config : Config) (k : Client) (turns : List Turn) : Type 0 where
  pub made : W.RecordOf (world_of config k) (map (λ (t : W.Turn). t.event) (view config k.at turns))
      (view config k.at turns)
  pub entries : W.entries_of (view config k.at turns) ≡ view_entries k.at (entries_of turns)

abbrev pub ViewsAreRecords : Type 0
ViewsAreRecords = OfRecords (λ config turns. (k : Client) → IsClient config k → IsSeen config k turns)

-- Of a legal run it is legal, by the clocks of these two: what they show at the events of the run at which those of the
-- view stand.
pub record Views (c : Clocks) (config : Config) (k : Client) (turns : List Turn) : Type 0 where
  pub seen : IsSeen config k turns
  pub legal : by_clocks.Legal (seen_at c k.at (place config k.at turns)) (world_of config k) (view config k.at turns)

abbrev pub ViewsAreRuns : Type 0
ViewsAreRuns = (c : Clocks) (config : Config) (events : List Event) (turns : List Turn) → RecordOf config events turns
    → Legal c config turns → (k : Client) → IsClient config k → Views c config k turns
