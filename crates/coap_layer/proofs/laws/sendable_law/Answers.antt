use Rattle.coap_layer.proofs.Facts.Sendable.{sendable_when_short}
use Rattle.coap_layer.proofs.laws.sendable_law.Goals as goal

pub returns : goal.returns
returns c = sendable_when_short
