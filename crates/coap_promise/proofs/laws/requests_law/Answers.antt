use Rattle.coap_record.specs.Record.{entries_of}
use Rattle.coap_promise.proofs.Facts.Requests.CallsInRange.{in_range}
use Rattle.coap_promise.proofs.Uploads.AppliedWhole.{applied_whole}
use Rattle.coap_promise.proofs.Facts.Requests.Promised.{came, served, belongs, once, lawful}
use Rattle.coap_promise.proofs.laws.requests_law.Goals as goal

pub returns-clause-came : goal.returns-clause-came
returns-clause-came c config events turns run legal = came config events turns run legal

pub returns-clause-once : goal.returns-clause-once
returns-clause-once c config events turns run legal = once config events turns run legal

pub returns-clause-whole : goal.returns-clause-whole
returns-clause-whole c config events turns run legal =
    applied_whole config (entries_of turns) legal.range.client_szx (lawful config events turns run legal)
    (λ x h. in_range config.addresses x turns run.made legal.events h)

pub returns-clause-belongs : goal.returns-clause-belongs
returns-clause-belongs c config events turns run legal = belongs config events turns run legal

pub returns-clause-served : goal.returns-clause-served
returns-clause-served c config events turns run legal = served config events turns run legal
