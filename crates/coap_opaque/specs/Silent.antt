-- A client sends nothing to a peer of which it has nothing, until a datagram of that peer arrives (RFC 7252, section
-- 5), and forgets one from which nothing comes (section 4.5). What an end sends goes to whom it heard; a client sends
-- to its server, too.
use Rattle.std.specs.Prelude.{◌≡◌, ◌⊎◌, ◌<◌, ◌+◌, Bool, true, false, ◌||◌, Some, List, ◌++◌}
use Rattle.coap_types.specs.Past.{Always, Ever}
use Rattle.coap_types.specs.SameEndpoint.{same_endpoint}
use Rattle.coap_types.specs.declared.endpoint.Endpoint.{Endpoint}
use Rattle.coap_types.specs.declared.transmission.TheConstants.{EXCHANGE_LIFETIME_MS as exchange_lifetime}
use Rattle.coap_layer.specs.Machine.Peers as L
use Rattle.coap_layer.specs.Machine.State.{Arrived}
use Rattle.coap_layer.specs.Trace.{Packet}
use Rattle.coap_layer.specs.declared.setup.Setup.{Setup}
use Rattle.coap_block.specs.Sizes.{Sizes}
use Rattle.coap_block.specs.Whole.{Each}
use Rattle.coap_client.specs.Law.{ClientLaw}
use Rattle.coap_client.specs.Led.{State, state_left}
use Rattle.coap_client.specs.Trace as client
use Rattle.coap_client.specs.Trace.{Call, Feeds, NextOut}
use Rattle.coap_server.specs.Trace as server

-- its message layer has something of the peer that it may send, or may still need; or the peer is its server, which it
-- may ask at any call
abbrev pub knows : State → Endpoint → Bool
knows s peer = L.knows peer s.layer.layer || same_endpoint s.layer.own.server peer

-- no datagram of the peer arrives in this call
abbrev pub HearsElse : Endpoint → Call → Type 0
HearsElse peer (Feeds now from bytes word up settled event sent token kept) = same_endpoint from peer ≡ false
HearsElse peer _ = Unit {0}

-- none that goes to the peer is taken in this call
abbrev pub GivesElse : Endpoint → Call → Type 0
GivesElse peer (NextOut (Some packet)) = same_endpoint packet.to peer ≡ false
GivesElse peer _ = Unit {0}

module _ (server : Endpoint) (sizes : Sizes) (setup : Setup) where
  abbrev pub StaysSilent : List Call → Type 0
  StaysSilent t =
      (peer : Endpoint) → knows (state_left server sizes setup t) peer ≡ false
      → (calls : List Call) → Each (HearsElse peer) calls → ClientLaw server sizes setup (calls ++ t)
      → Each (GivesElse peer) calls

  -- Of duplicates nothing of a peer is remembered, once no datagram of it has arrived for EXCHANGE_LIFETIME.
  abbrev pub ForgetsTheSilent : List Call → Type 0
  ForgetsTheSilent t =
      (peer : Endpoint) (calls : List Call) → Each (HearsElse peer) calls → ClientLaw server sizes setup (calls ++ t)
      → (state_left server sizes setup t).layer.layer.clock + exchange_lifetime
      < (state_left server sizes setup (calls ++ t)).layer.layer.clock
      → Each (λ (a : Arrived). same_endpoint a.from peer ≡ false)
      (state_left server sizes setup (calls ++ t)).layer.layer.arrived

-- a datagram of the peer arrives in this call

abbrev pub ClientHears : Endpoint → client.Call → Type 0
ClientHears peer (client.Feeds now from bytes word up settled event sent token kept) = same_endpoint from peer ≡ true
ClientHears peer _ = ⊥

abbrev pub ServerHears : Endpoint → server.Call → Type 0
ServerHears peer (server.Feeds now from bytes word up came h below) = same_endpoint from peer ≡ true
ServerHears peer (server.Refuses now from bytes word code up p response below) = same_endpoint from peer ≡ true
ServerHears peer _ = ⊥

-- A datagram that a client gives out goes to its server, or to a peer from which one arrived before ..
abbrev pub ClientGivesToHeard : Endpoint → List client.Call → Type 0
ClientGivesToHeard server t =
    Always (λ past c. (p : Packet) → c ≡ client.NextOut (Some p)
    → (same_endpoint server p.to ≡ true) ⊎ Ever (ClientHears p.to) past) t

-- .. and one that a server gives out to a peer from which one arrived before.
abbrev pub ServerGivesToHeard : List server.Call → Type 0
ServerGivesToHeard t =
    Always (λ past c. (p : Packet) → c ≡ server.NextOut (Some p) → Ever (ServerHears p.to) past) t
