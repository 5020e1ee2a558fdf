-- Each of many clients that keeps up gives its calls back.
use Rattle.std.specs.Prelude.{ℕ, List}
use Rattle.coap_many.specs.Clients.{Client, Config, IsClient, world_of}
use Rattle.coap_many.specs.Clocks.{Clocks, seen_at}
use Rattle.coap_many.specs.Entries.{Turn}
use Rattle.coap_many.specs.Place.{place}
use Rattle.coap_many.specs.View.{view}
use Rattle.coap_given_back.specs.InRuns as run

-- What this client and the server see of the run is a run of these two, by their clocks. Where the client keeps up in
-- that from a call on, the call is reported in time, whatever the other clients do, the server and the network.
abbrev pub EachGivesBack : Clocks → Config → ℕ → List Turn → Type 0
EachGivesBack c config late turns = (k : Client) → IsClient config k
    → run.AreGivenBack (seen_at c k.at (place config k.at turns)) (world_of config k) late (view config k.at turns)
