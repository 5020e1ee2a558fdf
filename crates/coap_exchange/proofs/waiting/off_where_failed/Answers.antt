use Rattle.std.proofs.Common.{ap, ◌∙◌}
use Rattle.coap_exchange.specs.Machine.Listed.{listed_before}
use Rattle.coap_exchange.proofs.Calls.Lists.{over_before}
use Rattle.coap_exchange.proofs.Calls.ServerTicks.{failed_off}
use Rattle.coap_exchange.proofs.waiting.off_where_failed.Goals as goal

pub returns-in-Expired-clause-now : goal.returns-in-Expired-clause-now
returns-in-Expired-clause-now c answer h = failed_off c.args.tick c.in-Expired.to c.in-Expired.id answer
    c.args.separate.now c.take_off.new.list c.in-Expired.is h c.take_off.ensures

pub returns-in-Expired-clause-before : goal.returns-in-Expired-clause-before
returns-in-Expired-clause-before c = ap listed_before c.take_off.ensures
    ∙ over_before c.in-Expired.to c.in-Expired.id.0 c.args.separate.now
