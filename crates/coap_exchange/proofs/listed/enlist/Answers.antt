use Rattle.std.proofs.Common.{◌≡◌, ◌++◌, ◌∷◌, [], true, false, rules, ap, ◌∙◌}
use Rattle.coap_exchange.specs.Machine.Listed.{listed, listed_before}
use Rattle.coap_exchange.proofs.Calls.Lists.{enlisted, enlisted_before}
use Rattle.coap_exchange.proofs.listed.enlist.Goals as goal

pub returns-clause-now : goal.returns-clause-now
returns-clause-now g c =
    let is : c.push.new.self.items ≡ c.args.list.now.items
    ++ record { entry = c.args.entry; now = true; before = false } ∷ [] = search rules in
    ap listed is ∙ enlisted c.args.list.now.items c.args.entry

pub returns-clause-before : goal.returns-clause-before
returns-clause-before g c =
    let is : c.push.new.self.items ≡ c.args.list.now.items
    ++ record { entry = c.args.entry; now = true; before = false } ∷ [] = search rules in
    ap listed_before is ∙ enlisted_before c.args.list.now.items c.args.entry
