use Rattle.coap_record.specs.Record.{entries_of}
use Rattle.coap_promise.proofs.Facts.Requests.Promised.{lawful}
use Rattle.coap_promise.proofs.Observations.HeldAreNamed.{all_named}
use Rattle.coap_promise.proofs.Facts.Observations.Rising.{all_rise}
use Rattle.coap_promise.proofs.Facts.Reports.FormatsSet.{formats_in}
use Rattle.coap_promise.proofs.laws.observations_law.Goals as goal
use Rattle.coap_promise.proofs.Facts.Requests.AtAnyTime.{at_any_time}

pub returns-clause-rising : goal.returns-clause-rising
returns-clause-rising c config events turns run legal =
    all_rise config legal.range.server_szx legal.range.limit (entries_of turns)
    (lawful config events turns run legal) (formats_in config.addresses turns run.made legal.events)

pub returns-clause-named : goal.returns-clause-named
returns-clause-named c config events turns run legal =
    all_named config (entries_of turns) (at_any_time (lawful config events turns run legal))
