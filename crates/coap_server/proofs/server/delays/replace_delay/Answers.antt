use Rattle.std.proofs.Common.{rules, refl}
use Rattle.coap_server.proofs.Calls.DelayLists.{replaced, path_at}
use Rattle.coap_server.proofs.server.delays.replace_delay.Goals as goal

pub returns : goal.returns
returns g c =
    let there = path_at c.args.path.now c.args.delays.now.items c.args.place c.remove-delay.result c.remove-delay.result
    c.requires.within (search rules) c.requires.place in
    replaced c.args.path.now _ _ _ c.args.delays.now.items c.args.place _ c.args.ms c.requires.within c.requires.place
    c.remove-delay.ensures.items c.retain_others.ensures.left c.push_within.ensures there refl
