use Rattle.std.proofs.Common.{refl}
use Rattle.coap_kept.proofs.GoingOn.{if_ok}
use Rattle.coap_kept.proofs.machine.HostMachineNamesMachine.ask.Goals as goal

pub returns : goal.returns
returns g c = if_ok c.machine_now.result (λ machine is. (refl, is)) c.machine_now.ensures
