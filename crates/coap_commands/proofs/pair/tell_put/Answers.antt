use Rattle.std.proofs.Common.{◌≡◌, rules}
use Rattle.coap_waits.specs.Asks.{changed_status}
use Rattle.coap_status.specs.declared.status.Status.TheVariants as status
use Rattle.coap_commands.proofs.PairTexts.{put_said}
use Rattle.coap_commands.proofs.pair.tell_put.Goals as goal

pub returns-clause-printed : goal.returns-clause-printed
returns-clause-printed g c =
    let refused : changed_status c.args.outcome.now ≡ status.Refused = search rules in
    put_said _ _ c.args.outcome.now refused c.in_ok-say.ensures
