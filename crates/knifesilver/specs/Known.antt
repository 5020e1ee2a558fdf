-- What is told of a peer.
use Rattle.std.specs.Prelude.{◌≡◌, ℕ, ℤ}
use Rattle.coap_types.specs.declared.endpoint.Endpoint.{Endpoint}
use Rattle.coap_server.specs.Led.{State}
use Rattle.coap_server.specs.Peers.{knows}
use Rattle.knifesilver.specs.Answers.{told}

-- the answer says whether a server in this state has something of the peer at this moment
abbrev pub TellsKnown : ℤ → ℕ → Endpoint → State → Type 0
TellsKnown answer now peer s = answer ≡ told (knows s now peer)
