-- Two Message IDs that a layer gave are equal only if they were given long apart.
use Rattle.std.specs.Prelude.{List}
use Rattle.coap_layer.specs.Follows.{IdsApart}
use Rattle.coap_layer.specs.Rows.{LayerLaw}
use Rattle.coap_layer.specs.Trace.{Entry, Setup}
use Rattle.coap_layer.proofs.Copies.CopiesInTime as copies

pub ids_apart : (setup : Setup) (t : List Entry) → LayerLaw setup t → IdsApart t
ids_apart = copies.ids_apart
