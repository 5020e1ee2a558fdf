-- That nothing is fetched for an observation whose notifications have all of a representation (RFC 7959, section 2.6).
use Rattle.std.specs.Prelude.{◌≡◌, ℕ, List}
use Rattle.coap_block.specs.Sizes.{Sizes}
use Rattle.coap_client.specs.Trace.{Call}
use Rattle.coap_client.specs.Own.{Fetching}
use Rattle.coap_client_laws.specs.Follows.Begins.{WasSent}
use Rattle.coap_client_laws.specs.Follows.LastValue.{HaveAll}
use Rattle.coap_client.specs.Sendings.{Sending}

module _ (sizes : Sizes) where
  -- Where each notification that was taken of the observation has all of a representation, no request for the rest of
  -- one was sent.
  abbrev pub NoneFetched : List Call → Type 0
  NoneFetched t = (number : ℕ) → HaveAll sizes number t → (x : Sending) → WasSent sizes x t
      → x.operation ≡ Fetching number → ⊥
