-- What holds of each history that stands in the law of a client.
use Rattle.std.specs.Prelude.{List}
use Rattle.coap_types.specs.declared.endpoint.Endpoint.{Endpoint}
use Rattle.coap_layer.specs.declared.setup.Setup.{Setup}
use Rattle.coap_block.specs.Sizes.{Sizes}
use Rattle.coap_client.specs.Law.{ClientLaw}
use Rattle.coap_client.specs.Trace.{Call}

-- whatever its server, its sizes and its setup
abbrev pub ClientHolds : (Endpoint → Sizes → Setup → List Call → Type 0) → Type 0
ClientHolds Holds =
    (server : Endpoint) (sizes : Sizes) (setup : Setup) (t : List Call) → ClientLaw server sizes setup t
    → Holds server sizes setup t
