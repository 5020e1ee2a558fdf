-- What each of many clients comes to, where the loss between it and the server is fair, by one clock of all.
use Rattle.std.specs.Prelude.{◌≡◌, ℕ, List}
use Rattle.coap_fair.specs.FairLoss.{FairRun, AnsweredFairly}
use Rattle.coap_many.specs.Clients.{Client, Config, IsClient, world_of}
use Rattle.coap_many.specs.Clocks.{Clocks}
use Rattle.coap_many.specs.Entries.{Turn}
use Rattle.coap_many.specs.View.{view}

-- At each event each client's clock shows what the server's shows.
abbrev pub HaveOneClock : Config → Clocks → Type 0
HaveOneClock config c = (k : Client) → IsClient config k → (n : ℕ) → c.clients k.at n ≡ c.server n

-- What this client and the server see of the run is a run of these two, in which the others are strangers. Where that
-- has fair loss, the client's calls are answered in it. (Of the loss of the others nothing is asked. What comes to the
-- server is counted of all clients together.)
abbrev pub EachIsAnswered : ℕ → Config → List Turn → Type 0
EachIsAnswered ms config turns = (k : Client) → IsClient config k
    → FairRun ms (world_of config k) (view config k.at turns)
    → AnsweredFairly ms (world_of config k) (view config k.at turns)
