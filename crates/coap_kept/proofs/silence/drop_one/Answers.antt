use Rattle.coap_kept.proofs.SilentOn.{received_one}
use Rattle.coap_kept.proofs.silence.drop_one.Goals as goal

pub returns : goal.returns
returns g c = received_one g.L.Link.receives _ _ _ c.receive.ensures.receives
