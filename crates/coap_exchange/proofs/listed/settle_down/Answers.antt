use Rattle.std.proofs.Common.{rules, filter, ap, ◌∙◌}
use Rattle.coap_exchange.specs.Machine.Listed.{listed, listed_before}
use Rattle.coap_exchange.proofs.Calls.Lists.{dropped, noted_now, noted_before}
use Rattle.coap_exchange.proofs.listed.settle_down.Goals as goal

pub returns-clause-gone : goal.returns-clause-gone
returns-clause-gone g c = search rules

pub returns-clause-now : goal.returns-clause-now
returns-clause-now g c = ap listed (returns-clause-gone g c)
    ∙ (noted_now (filter (λ k. k.now) c.args.list.now.items) ∙ dropped c.args.list.now.items)

pub returns-clause-before : goal.returns-clause-before
returns-clause-before g c = ap listed_before (returns-clause-gone g c)
    ∙ (noted_before (filter (λ k. k.now) c.args.list.now.items) ∙ dropped c.args.list.now.items)
