use Rattle.std.proofs.Common.{rules, refl}
use Rattle.coap_server.proofs.Calls.DelayLists.{with_kept}
use Rattle.coap_server.proofs.server.delays.add_delay.Goals as goal

pub returns-clause-ok : goal.returns-clause-ok
returns-clause-ok g c =
    with_kept c.args.path.now c.push_within.new.list.items _ c.args.delays.now.items _ c.args.ms c.push_within.ensures
    (search (rules, c.requires.new)) (search rules) refl
