-- Histories that show the laws to be of something (RFC 7252, section 4.2).
use Rattle.std.specs.Prelude.{◌≡◌, ◌≢◌, ◌+◌, List, ◌∷◌}
use Rattle.coap_types.specs.Past.{Ever, Sometime}
use Rattle.coap_types.specs.declared.transmission.TheConstants.{MAX_TRANSMIT_WAIT_MS as max_transmit_wait}
use Rattle.coap_types.specs.declared.transmission.TheConstants.{MAX_RETRANSMIT as max_retransmit}
use Rattle.coap_types.specs.declared.endpoint.Endpoint.{Endpoint}
use Rattle.coap_layer.specs.Trace.{Expired, Entry, Setup}
use Rattle.coap_layer.specs.Words.{Open}
use Rattle.coap_layer.specs.Rows.{LayerLaw}
use Rattle.coap_layer.specs.Sends.{AtLeast, SendsIt}
use Rattle.coap_layer.specs.Channel.{Hop, Near, OnFar, near_of, HearsAck, Takes}
use Rattle.coap_layer.specs.OneClock.{ChannelLaw}

-- how the layers of the examples began
abbrev pub began : Setup
began = record { word = 0; remembered = 4096 }

-- In a lawful history a CON goes out five times, and fails MAX_TRANSMIT_WAIT after the first.
pub record FiveTimes : Type 0 where
  pub past : List Entry
  pub last : Entry
  pub law : LayerLaw began (last ∷ past)
  pub con : Open
  pub five : AtLeast (1 + max_retransmit) (SendsIt con) past
  pub fails : last.answer ≡ Expired con.to con.id
  pub then_is : last.at ≡ con.first + max_transmit_wait

-- In a lawful history of two layers, apart from each other, a CON is taken, and then its acknowledgement is heard.
pub record IsAcknowledged : Type 0 where
  pub near : Endpoint
  pub far : Endpoint
  pub hops : List Hop
  pub apart : near ≢ far
  pub law : ChannelLaw began began near far hops
  pub con : Open
  pub heard : Sometime (λ past h. (e : Entry) × (h ≡ Near e) × HearsAck con (near_of past) e
      × Ever (OnFar (Takes near con)) past) hops
