use Rattle.std.proofs.Common.{ap, ◌∙◌}
use Rattle.coap_layer.proofs.Calls.Foretold.{fault_would}
use Rattle.coap_layer.proofs.arriving.would.Goals as goal

pub returns-in-Err : goal.returns-in-Err
returns-in-Err g c s bound arrived opened free =
    fault_would s c.args.at.0 c.args.from c.args.read.now c.in-Err.fault c.of_fault-verdict.result.verdict
    c.would_by.result c.in-Err.is (ap (λ a. a.verdict) c.of_fault-verdict.ensures) c.would_by.ensures
