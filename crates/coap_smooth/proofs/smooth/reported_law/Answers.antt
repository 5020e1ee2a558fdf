use Rattle.coap_record.specs.Record.{client_of, entries_of}
use Rattle.coap_smooth.proofs.Reported.EachReported.{each_reported, quiet}
use Rattle.coap_smooth.proofs.Reports.ByAnswer.{Answering}
use Rattle.coap_smooth.proofs.Reports.ChangesAnswered.{changes_answered}
use Rattle.coap_promise.proofs.Facts.Requests.CallsInRange.{in_range}
use Rattle.coap_promise.proofs.Facts.Requests.Promised.{lawful}
use Rattle.coap_smooth.proofs.Smoothly.Ticks.NothingIsLeft.{stands}
use Rattle.coap_smooth.proofs.smooth.reported_law.Goals as goal

pub returns : goal.returns
returns c = record {
  reported = λ config events turns run legal smooth young all.
      (let k : Answering config (client_of (entries_of turns)) =
      record { law = run.client; by_answers = all.by_answers; all_sent = all.all_sent; none_taken = all.none } in
      let changes = changes_answered config legal.range (entries_of turns) (lawful config events turns run legal)
      (λ x h. in_range config.addresses x turns run.made legal.events h) k in
      each_reported config c.client_law.ensures.answered turns (stands config events turns run legal smooth) young
      (quiet config (entries_of turns) k changes));
}
