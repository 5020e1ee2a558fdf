-- What is told of a datagram that is not fed.
use Rattle.std.specs.Prelude.{◌≡◌, ◌+◌, max, ℕ, ℤ, pos, List}
use Rattle.coap_types.specs.declared.endpoint.Endpoint.{Endpoint}
use Rattle.coap_layer.specs.Machine.Would.{would_of}
use Rattle.coap_layer.specs.declared.would.Would.{Would}
use Rattle.coap_layer.specs.declared.would.Would.TheVariants.{Ignored, Rejected, Repeated, Taken, NoPlace, NoId}
use Rattle.coap_layer.specs.declared.would.Would.TheVariants.{Acknowledges, Resets}
use Rattle.coap_client.specs.Led as client
use Rattle.coap_server.specs.Led as server

abbrev pub would_number : Would → ℕ
would_number Ignored = 0
would_number Rejected = 1
would_number Repeated = 2
would_number Taken = 3
would_number NoPlace = 4
would_number NoId = 5
would_number Acknowledges = 6
would_number Resets = 7

-- the answer is the number of what the datagram would be for a server in this state
abbrev pub WouldAtServer : ℕ → Endpoint → List ℕ → ℤ → server.State → Type 0
WouldAtServer now from bytes answer s =
    answer ≡ pos (64 + would_number (would_of s.layer (max s.own.clock now) from bytes))

-- .. for a client
abbrev pub WouldAtClient : ℕ → Endpoint → List ℕ → ℤ → client.State → Type 0
WouldAtClient now from bytes answer s =
    answer ≡ pos (64 + would_number (would_of s.layer.layer (max s.own.clock now) from bytes))
