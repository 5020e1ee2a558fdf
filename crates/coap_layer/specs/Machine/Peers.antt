-- Whether a layer has something of a peer that it may send, or may still need (RFC 7252, section 4).
use Rattle.std.specs.Prelude.{Bool, false, ◌||◌, Option, Some, None, List}
use Rattle.std.specs.List.{list_any}
use Rattle.coap_types.specs.SameEndpoint.{same_endpoint}
use Rattle.coap_types.specs.declared.endpoint.Endpoint.{Endpoint}
use Rattle.coap_layer.specs.Machine.State.{State, is_busy}
use Rattle.coap_layer.specs.Trace.{Packet}
use Rattle.coap_layer.specs.Words.{Awaited}

-- one of these goes there
abbrev pub goes_to : Endpoint → List Packet → Bool
goes_to peer packets = list_any (λ (p : Packet). same_endpoint p.to peer) packets

-- a reply may be given to a message from there
abbrev pub is_awaited : Endpoint → Option Awaited → Bool
is_awaited peer None = false
is_awaited peer (Some a) = same_endpoint a.from peer

-- a CON to there is outstanding, a datagram to there waits to be taken, or a message from there may be replied to; what
-- is remembered of it is not counted
abbrev pub knows : Endpoint → State → Bool
knows peer s = is_busy peer s.open_cons || (goes_to peer s.queue || is_awaited peer s.awaits)
