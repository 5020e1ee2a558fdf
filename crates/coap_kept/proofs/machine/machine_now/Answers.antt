use Rattle.coap_kept.specs.Machines.{IsMachineOf}
use Rattle.coap_kept.proofs.GoingOn.{if_ok}
use Rattle.coap_kept.proofs.machine.machine_now.Goals as goal

pub returns-in-Some : goal.returns-in-Some
returns-in-Some g c =
    let named = c.in-Some.ensures.named in IsMachineOf.named named.0 named.1 named.2 named.3

pub returns-in-None : goal.returns-in-None
returns-in-None g c =
    if_ok c.drawn_by.result
    (λ machine drawn. IsMachineOf.unnamed drawn.0 drawn.1 c.in-None.ensures.none drawn.2 drawn.3 drawn.4)
    c.drawn_by.ensures
