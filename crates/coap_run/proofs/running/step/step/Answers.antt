use Rattle.std.proofs.Common.{ap, ◌∙◌}
use Rattle.coap_run.specs.Run.Ends.{ClientLed, ServerLed}
use Rattle.coap_run.specs.Run.Happening.{event_of}
use Rattle.coap_run.specs.Run.Log.{Log, given_of}
use Rattle.coap_run.proofs.Recording.Standing.{goes_on}
use Rattle.coap_run.proofs.running.step.step.Goals as goal

pub returns-clause-ok : goal.returns-clause-ok
returns-clause-ok g c = λ config events turns same st.
    goes_on ClientLed (ServerLed g.S.Store.content) c.args.addresses config events turns (event_of c.args.event.now) _ _
    _ _ _ _ _ same st
    (c.in_ok-turn.ensures.ok turns (ap (λ (l : Log). l.given) st.log_is ∙ ap (λ x. given_of x turns) same))
    c.turn.ensures.small.0 c.turn.ensures.small.1
    c.show_ranges.ensures c.if-at-last.false
