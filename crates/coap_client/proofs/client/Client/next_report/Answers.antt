use Rattle.std.proofs.Common.{rules}
use Rattle.std.specs.Option.{option_map}
use Rattle.coap_client.specs.Trace.{NextReport}
use Rattle.coap_client.specs.Object.Held.{seen}
use Rattle.coap_client.specs.Object.Shown.{shown_reported}
use Rattle.coap_client.proofs.Calls.Watched.{led_step}
use Rattle.coap_client.proofs.Calls.TakesOut.{if_no_report, if_report}
use Rattle.coap_client.proofs.client.Client.next_report.Goals as goal

pub invariant_of-self : goal.invariant_of-self
invariant_of-self g c = led_step (seen c.self.inside.parts) _
    (NextReport (option_map shown_reported c.pop_front.result)) c.self.invariant (search rules)

pub returns-clause-step : goal.returns-clause-step
returns-clause-step g c = search rules

pub returns-clause-none : goal.returns-clause-none
returns-clause-none g c = if_no_report shown_reported c.pop_front.result _ _ (returns-clause-step g c)

pub returns-clause-some : goal.returns-clause-some
returns-clause-some g c = if_report shown_reported c.pop_front.result _ _ (returns-clause-step g c)
