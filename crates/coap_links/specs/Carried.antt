-- A datagram that a link carries: its peer, which it goes to or came from, and its bytes.
use Rattle.std.specs.Prelude.{ℕ, List, take, Option, option_map}
use Rattle.coap_types.specs.declared.endpoint.Endpoint.{Endpoint}

abbrev pub Packet : Type 0
Packet = Endpoint × List ℕ

-- the datagram in the front of a buffer, by its peer and its length
abbrev pub received : Option (Endpoint × ℕ) → List ℕ → Option Packet
received found buffer = option_map (λ came. (came.0, take came.1 buffer)) found
