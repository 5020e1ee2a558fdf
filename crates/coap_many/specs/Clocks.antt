-- The clocks of the ends of a run of many: each client has one of its own, and so has the server.
use Rattle.std.specs.Prelude.{◌≡◌, ◌⊎◌, ℕ}
use Rattle.coap_types.specs.declared.endpoint.Endpoint.{Endpoint}
use Rattle.coap_promise.specs.Clocks as W
use Rattle.coap_many.specs.Clients.{Client, Config, IsClient, IsOfClient}

-- what the clock of the client at this address shows, and the server's, at an event: at that before which there were so
-- many
pub record Clocks : Type 0 where
  pub clients : Endpoint → ℕ → ℕ
  pub server : ℕ → ℕ

-- those of one client and the server
abbrev pub of_two : Clocks → Endpoint → W.Clocks
of_two c me = record { client = c.clients me; server = c.server }

-- .. at these events alone
abbrev pub seen_at : Clocks → Endpoint → (ℕ → ℕ) → W.Clocks
seen_at c me places = record { client = λ n. c.clients me (places n); server = λ n. c.server (places n) }

-- No clock falls. Each client's and the server's keep pace: neither gains more than 5 s on the other in 247 s. Of the
-- clocks of two clients nothing is said, nor of what any clock shows at first.
abbrev pub AreClocks : Config → Clocks → Type 0
AreClocks config c = (k : Client) → IsClient config k → W.AreClocks (of_two c k.at)

-- the clock of this end shows this moment, at the event of this number
abbrev pub Shows : Config → Clocks → ℕ → Endpoint → ℕ → Type 0
Shows config c n end at = ((end ≡ config.server) × (c.server n ≡ at)) ⊎ (IsOfClient config end × (c.clients end n ≡ at))
