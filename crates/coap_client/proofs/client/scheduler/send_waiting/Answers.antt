use Rattle.std.proofs.Common.{sym, subst}
use Rattle.std.specs.Prelude.{IfOk}
use Rattle.coap_client.specs.Requests.{message_of}
use Rattle.coap_client.specs.Object.Sends.{Sends}
use Rattle.coap_client.specs.Object.Shown.{shown_waiting}
use Rattle.coap_client.proofs.Calls.WaitingLemmas.{if_all, if_map}
use Rattle.coap_client.proofs.client.scheduler.send_waiting.Goals as goal

pub returns-in-Calling-clause-sends : goal.returns-in-Calling-clause-sends
returns-in-Calling-clause-sends g c =
    if_map c.send.result (λ token h os. subst (λ w. Sends c.args.asker.now.state c.args.now.at.0
    (message_of os (shown_waiting {A = g.row.A.Denot} w)) c.args.now.word token c.send.new.asker.state)
    (sym c.in-Calling.is) (h os c.in-Calling.field-0))
    c.send.ensures.sends

pub returns-in-Registering-clause-sends : goal.returns-in-Registering-clause-sends
returns-in-Registering-clause-sends g c =
    if_all _ c.register.result (λ os. subst (λ w. IfOk c.register.result
    (λ token. Sends c.args.asker.now.state c.args.now.at.0
    (message_of os (shown_waiting {A = g.row.A.Denot} w)) c.args.now.word token c.register.new.asker.state))
    (sym c.in-Registering.is)
    (c.register.ensures.sends os c.in-Registering.field-0))
