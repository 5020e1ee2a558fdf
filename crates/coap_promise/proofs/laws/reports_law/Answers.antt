use Rattle.coap_record.specs.Record.{entries_of}
use Rattle.coap_promise.proofs.Facts.Requests.Promised.{lawful}
use Rattle.coap_promise.proofs.Reports.BodiesHeld.{each_held}
use Rattle.coap_promise.proofs.Facts.Reports.FormatsSet.{formats_in}
use Rattle.coap_promise.proofs.Reports.ValidHeld.{each_valid}
use Rattle.coap_promise.proofs.Reports.ValuesHeld.{each_value}
use Rattle.coap_promise.proofs.Facts.Reports.OnceDone.{once_done}
use Rattle.coap_promise.proofs.Facts.Reports.NeverFailed.{never_failed}
use Rattle.coap_promise.proofs.Facts.Requests.CallsInRange.{in_range}
use Rattle.coap_promise.proofs.laws.reports_law.Goals as goal
use Rattle.coap_promise.proofs.Facts.Requests.AtAnyTime.{at_any_time}

pub returns-clause-held : goal.returns-clause-held
returns-clause-held c config events turns run legal =
    each_held config legal.range.server_szx (entries_of turns) (at_any_time (lawful config events turns run legal))
    (formats_in config.addresses turns run.made legal.events)

pub returns-clause-valid : goal.returns-clause-valid
returns-clause-valid c config events turns run legal =
    each_valid config (entries_of turns) (at_any_time (lawful config events turns run legal))

pub returns-clause-value : goal.returns-clause-value
returns-clause-value c config events turns run legal =
    each_value config legal.range.server_szx (entries_of turns) (at_any_time (lawful config events turns run legal))
    (formats_in config.addresses turns run.made legal.events)

pub returns-clause-done : goal.returns-clause-done
returns-clause-done c config events turns run legal =
    once_done config (entries_of turns) legal.range.client_szx (lawful config events turns run legal)
    (λ x h. in_range config.addresses x turns run.made legal.events h)

pub returns-clause-failed : goal.returns-clause-failed
returns-clause-failed c config events turns run legal =
    never_failed config (entries_of turns) legal.range.client_szx (lawful config events turns run legal)
    (λ x h. in_range config.addresses x turns run.made legal.events h)
