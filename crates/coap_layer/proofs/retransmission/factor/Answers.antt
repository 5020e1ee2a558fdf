use Rattle.coap_layer.proofs.Copies.BackOffIsShort.{short}
use Rattle.coap_layer.proofs.retransmission.factor.Goals as goal

pub returns-clause-short : goal.returns-clause-short
returns-clause-short c = short c.args.retransmission c.requires
