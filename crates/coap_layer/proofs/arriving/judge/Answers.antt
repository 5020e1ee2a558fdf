use Rattle.coap_layer.proofs.Calls.JudgedByTable.{fault_judged}
use Rattle.coap_layer.proofs.arriving.judge.Goals as goal

pub returns-in-Err : goal.returns-in-Err
returns-in-Err g c s bound arrived opened free = fault_judged s c.args.at.0 c.args.from c.args.read.now c.in-Err.fault
    c.of_fault.result c.in-Err.is c.of_fault.ensures
