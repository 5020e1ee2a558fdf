use Rattle.std.proofs.Common.{◌≡◌, rules}
use Rattle.coap_waits.specs.Asks.{got_status}
use Rattle.coap_status.specs.declared.status.Status.TheVariants as status
use Rattle.coap_commands.proofs.PairTexts.{get_said}
use Rattle.coap_commands.proofs.pair.tell_get.Goals as goal

pub returns-clause-printed : goal.returns-clause-printed
returns-clause-printed g c =
    let refused : got_status c.args.outcome.now ≡ status.Refused = search rules in
    get_said _ _ c.args.outcome.now refused c.in_ok-say.ensures
