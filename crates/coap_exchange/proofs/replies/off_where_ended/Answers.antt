use Rattle.std.proofs.Common.{ap, ◌∙◌}
use Rattle.coap_exchange.specs.Machine.Listed.{listed_before}
use Rattle.coap_exchange.proofs.Calls.Lists.{over_before}
use Rattle.coap_exchange.proofs.Calls.ServerCalls.{off_is}
use Rattle.coap_exchange.proofs.replies.off_where_ended.Goals as goal

pub returns-in-Acked-clause-now : goal.returns-in-Acked-clause-now
returns-in-Acked-clause-now c = off_is c.args.from c.in-Acked.id c.args.up.now c.args.separate.now c.take_off.new.list
    c.in-Acked.is c.take_off.ensures

pub returns-in-Acked-clause-before : goal.returns-in-Acked-clause-before
returns-in-Acked-clause-before c = ap listed_before c.take_off.ensures
    ∙ over_before c.args.from c.in-Acked.id.0 c.args.separate.now
