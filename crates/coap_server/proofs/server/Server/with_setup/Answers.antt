use Rattle.std.proofs.Common.{rules, [], sym, subst}
use Rattle.coap_server.specs.Led.{Led}
use Rattle.coap_server.proofs.Facts.Exact.Leads.{led_empty}
use Rattle.coap_server.proofs.server.Server.with_setup.Goals as goal

pub returns-clause-start : goal.returns-clause-start
returns-clause-start g c = search rules

pub invariant_of-result : goal.invariant_of-result
invariant_of-result g c = (
  (
    c.requires.fresh.0,
    c.args.szx,
    c.args.setup,
    [],
    subst (λ s. Led c.requires.fresh.0 c.args.szx c.args.setup [] s)
        (sym (returns-clause-start g c c.requires.fresh.0 c.requires.fresh.1))
        (led_empty c.requires.fresh.0 c.args.szx c.args.setup),
  ),
  search rules,
)
