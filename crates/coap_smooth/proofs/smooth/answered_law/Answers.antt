use Rattle.std.proofs.Common.{List}
use Rattle.coap_record.specs.Events.{Config, Event}
use Rattle.coap_record.specs.Record.{Turn, RecordOf, client_of, entries_of}
use Rattle.coap_smooth.specs.SmoothAnswers.{AllAnswer}
use Rattle.coap_smooth.proofs.Reports.ByAnswer.{Answering}
use Rattle.coap_smooth.proofs.Reports.ChangesAnswered.{changes_answered}
use Rattle.coap_promise.proofs.Facts.Reports.FormatsSet.{formats_in}
use Rattle.coap_smooth.proofs.Reports.GetsHeld.{gets_held}
use Rattle.coap_promise.proofs.Facts.Requests.CallsInRange.{in_range}
use Rattle.coap_promise.proofs.Facts.Requests.Promised.{lawful}
use Rattle.coap_smooth.proofs.smooth.answered_law.Goals as goal

answering : (config : Config) (events : List Event) (turns : List Turn) → RecordOf config events turns
    → AllAnswer config turns → Answering config (client_of (entries_of turns))
answering config events turns run all =
    record { law = run.client; by_answers = all.by_answers; all_sent = all.all_sent; none_taken = all.none }

pub returns-clause-gets : goal.returns-clause-gets
returns-clause-gets c config events turns run legal all =
    gets_held config legal.range (entries_of turns) (lawful config events turns run legal)
    (formats_in config.addresses turns run.made legal.events) (λ x h. in_range config.addresses x turns run.made
    legal.events h)
    (answering config events turns run all)

pub returns-clause-changes : goal.returns-clause-changes
returns-clause-changes c config events turns run legal all =
    changes_answered config legal.range (entries_of turns) (lawful config events turns run legal)
    (λ x h. in_range config.addresses x turns run.made legal.events h) (answering config events turns run all)
