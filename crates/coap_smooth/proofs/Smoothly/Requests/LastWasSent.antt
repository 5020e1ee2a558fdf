-- The request of the exchange that is open was sent.
use Rattle.std.proofs.Common.{inl, inr, ℕ, List, [], ◌∷◌}
use Rattle.coap_types.specs.declared.endpoint.Endpoint.{Endpoint}
use Rattle.coap_layer.specs.declared.setup.Setup.{Setup}
use Rattle.coap_block.specs.Sizes.{Sizes}
use Rattle.coap_client_laws.specs.Follows.Begins.{WasSent}
use Rattle.coap_client.specs.Sendings.{Sending}
use Rattle.coap_client.specs.Trace as C
use Rattle.coap_smooth.proofs.Smoothly.Answers.ExchangeOpen.{OpenOf}

pub was_sent : (server : Endpoint) (sizes : Sizes) (setup : Setup) (at : ℕ) (x : Sending) (t : List C.Call)
    → OpenOf server sizes setup at x t → WasSent sizes x t
was_sent server sizes setup at x [] o = o
was_sent server sizes setup at x (c ∷ t) (inl o) = inl o.0
was_sent server sizes setup at x (c ∷ t) (inr o) = inr (was_sent server sizes setup at x t o.3)
