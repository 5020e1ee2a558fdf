use Rattle.std.proofs.Common.{ap, ◌∙◌}
use Rattle.coap_client.specs.Object.Held.{shown_hold}
use Rattle.coap_client.proofs.Calls.DueLemmas.{unheld_first, held_first}
use Rattle.coap_client.proofs.client.due.free_from.Goals as goal

pub returns-in-None : goal.returns-in-None
returns-in-None c s same = unheld_first s c.args.from.0 (same ∙ ap shown_hold c.in-None.is)

pub returns-in-Some : goal.returns-in-Some
returns-in-Some c s same = held_first s c.in-Some.last.0 c.args.from.0 c.after.result
    (same ∙ ap shown_hold c.in-Some.is) c.after.ensures
