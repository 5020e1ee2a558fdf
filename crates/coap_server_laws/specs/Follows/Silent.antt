-- A server sends nothing to a peer of which it has nothing, until a datagram of that peer arrives (RFC 7252, section
-- 5), and forgets one from which nothing comes (section 4.5).
use Rattle.std.specs.Prelude.{◌≡◌, ◌<◌, ◌+◌, ℕ, false, Some, List, ◌++◌}
use Rattle.coap_types.specs.SameEndpoint.{same_endpoint}
use Rattle.coap_types.specs.declared.endpoint.Endpoint.{Endpoint}
use Rattle.coap_types.specs.declared.transmission.TheConstants.{EXCHANGE_LIFETIME_MS as exchange_lifetime}
use Rattle.coap_layer.specs.Machine.State.{Arrived}
use Rattle.coap_layer.specs.declared.setup.Setup.{Setup}
use Rattle.coap_block.specs.Whole.{Each}
use Rattle.coap_resource.specs.Limits.{Limits}
use Rattle.coap_server.specs.Trace.{Call, Feeds, Refuses, NextOut}
use Rattle.coap_server.specs.Law.{ServerLaw}
use Rattle.coap_server.specs.Led.{state_left}
use Rattle.coap_server.specs.Peers.{knows}

-- no datagram of the peer arrives in this call
abbrev pub HearsElse : Endpoint → Call → Type 0
HearsElse peer (Feeds now from bytes word up came h below) = same_endpoint from peer ≡ false
HearsElse peer (Refuses now from bytes word code up p response below) = same_endpoint from peer ≡ false
HearsElse peer _ = Unit {0}

-- none that goes to the peer is taken in this call
abbrev pub GivesElse : Endpoint → Call → Type 0
GivesElse peer (NextOut (Some packet)) = same_endpoint packet.to peer ≡ false
GivesElse peer _ = Unit {0}

abbrev pub StaysSilent : Limits → ℕ → Setup → List Call → Type 0
StaysSilent limits szx setup t =
    (peer : Endpoint) (now : ℕ) → knows (state_left limits szx setup t) now peer ≡ false
    → (calls : List Call) → Each (HearsElse peer) calls → ServerLaw limits szx setup (calls ++ t)
    → Each (GivesElse peer) calls

-- Of duplicates nothing of a peer is remembered, once no datagram of it has arrived for EXCHANGE_LIFETIME.
abbrev pub ForgetsTheSilent : Limits → ℕ → Setup → List Call → Type 0
ForgetsTheSilent limits szx setup t =
    (peer : Endpoint) (calls : List Call) → Each (HearsElse peer) calls → ServerLaw limits szx setup (calls ++ t)
    → (state_left limits szx setup t).layer.clock + exchange_lifetime
    < (state_left limits szx setup (calls ++ t)).layer.clock
    → Each (λ (a : Arrived). same_endpoint a.from peer ≡ false) (state_left limits szx setup (calls ++ t)).layer.arrived
