-- Where a block of one upload is sent, each block of another was answered, or goes nowhere any more (RFC 7252, section
-- 4.8.2; RFC 7959, section 2.5; the upload hold: profile).
use Rattle.std.specs.Prelude.{◌≡◌, ◌≢◌, ◌⊎◌, ◌<◌, ℕ, ◌+◌, true, Some, List, ◌∷◌}
use Rattle.coap_types.specs.Past.{Ever, Always}
use Rattle.coap_types.specs.declared.endpoint.Endpoint.{Endpoint}
use Rattle.coap_types.specs.declared.transmission.TheConstants.{MAX_LATENCY_MS as max_latency}
use Rattle.coap_layer.specs.Sends.{SendsIt}
use Rattle.coap_layer.specs.Words.{Open, begun}
use Rattle.coap_layer.specs.declared.setup.Setup.{Setup}
use Rattle.coap_block.specs.Sizes.{Sizes}
use Rattle.coap_client.specs.Trace.{Call}
use Rattle.coap_client.specs.Requests.{is_longer}
use Rattle.coap_client.specs.Law.{own_of, layer_of}
use Rattle.coap_client.specs.Sendings.{Sending, sends}
use Rattle.coap_client_laws.specs.Follows.Blocks.{Carried, carried}
use Rattle.coap_client_laws.specs.Follows.Begins.{WasSent, IsRequestOf}
use Rattle.coap_client_laws.specs.Follows.Adds.{call_adds}
use Rattle.coap_client_laws.specs.Follows.Order.{HearsBy}

-- the request is one block of several, of the upload of this call
pub record IsBlockOf (x : Sending) (number : ℕ) : Type 0 where
  pub block : Carried
  pub carries : carried x.operation ≡ Some block
  pub number_is : block.number ≡ number
  pub longer : is_longer block.upload ≡ true

module _ (server : Endpoint) (sizes : Sizes) (setup : Setup) where
  -- Each sending of the request, the retransmissions too, is older than MAX_LATENCY where this call begins a CON.
  abbrev pub IsQuiet : List Call → Call → Sending → Type 0
  IsQuiet past c x =
      (old new : Open) → Ever (λ b. begun b ≡ Some old) (layer_of server sizes setup past) → IsRequestOf server old x
      → Ever (λ b. begun b ≡ Some new) (call_adds server sizes setup past c)
      → Always (λ t e. SendsIt old t e → e.at + max_latency < new.first) (layer_of server sizes setup (c ∷ past))

  -- Where a block is sent, each block of another call's upload was answered, or is quiet.
  abbrev pub BlocksApart : List Call → Type 0
  BlocksApart trace =
      Always (λ past c. (x y : Sending) (i j : ℕ) → sends (own_of sizes past) c ≡ Some y → WasSent sizes x past
      → IsBlockOf x i → IsBlockOf y j → i ≢ j
      → Ever (HearsBy x.token) (c ∷ past) ⊎ IsQuiet past c x) trace
