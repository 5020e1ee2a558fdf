-- What hands up a request rejects no NON.
use Rattle.std.proofs.Common.{◌≡◌, Some, None, refl}
use Rattle.coap_types.specs.declared.endpoint.Endpoint.{Endpoint}
use Rattle.coap_codec.specs.Message.{Message}
use Rattle.coap_layer.specs.Trace as L
use Rattle.coap_exchange.specs.declared.answerer.Asked.{Asked}
use Rattle.coap_exchange.specs.AnswererSteps.{handed_up, unmatched_by}

pub none_rejected : (from : Endpoint) (up : L.Answer) (p : Asked × Message) → Some p ≡ handed_up from up
    → unmatched_by from up ≡ None
none_rejected from (L.Becomes (L.Unmatched id)) p h = absurd (cc h)
none_rejected from _ p h = refl
