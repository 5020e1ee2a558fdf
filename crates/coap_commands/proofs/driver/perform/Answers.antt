use Rattle.std.proofs.Common.{ℕ, IfOk, List, subst, sym}
use Rattle.coap_arguments.specs.declared.orders.Order.{Order}
use Rattle.coap_layer.specs.Machine.State.{usual}
use Rattle.coap_record.specs.declared.addresses.TheConstants.{CLIENT_END as client_end}
use Rattle.coap_types.specs.declared.body_limit.TheConstants.{DEFAULT_BODY_LIMIT as default_limit}
use Rattle.coap_answers.specs.Answering.{PrintsAnswer}
use Rattle.coap_answers.specs.Shown.{IsShown}
use Rattle.coap_answers.specs.Ends.{server_limits}
use Rattle.coap_commands.specs.Statuses.{CarriesOut}
use Rattle.coap_commands.proofs.driver.perform.Goals as goal

pub returns-in-Ask : goal.returns-in-Ask
returns-in-Ask g c =
    let old = g.O.Write.contents c.args.out.now in
    let new = g.O.Write.contents c.ask.new.out in
    subst (λ (o : Order). IfOk c.ask.result (CarriesOut old new o)) (sym c.in-Ask.is) c.ask.ensures.asked

pub returns-in-Discover : goal.returns-in-Discover
returns-in-Discover g c =
    let old = g.O.Write.contents c.args.out.now in
    let new = g.O.Write.contents c.discover.new.out in
    subst (λ (o : Order). IfOk c.discover.result (CarriesOut old new o)) (sym c.in-Discover.is) c.discover.ensures.asked

pub returns-in-Serve : goal.returns-in-Serve
returns-in-Serve g c =
    let old = g.O.Write.contents c.args.out.now in
    let new = g.O.Write.contents c.serve.new.out in
    subst (λ (o : Order). IfOk c.serve.result (CarriesOut old new o)) (sym c.in-Serve.is) c.serve.ensures

pub returns-in-Show : goal.returns-in-Show
returns-in-Show g c =
    let old = g.O.Write.contents c.args.out.now in
    let new = g.O.Write.contents c.show.new.out in
    subst (λ (o : Order). IfOk c.show.result (CarriesOut old new o)) (sym c.in-Show.is)
    (subst (λ (d : List ℕ). IfOk c.show.result (IsShown d)) c.as_slice.ensures.value c.show.ensures.shown)

pub returns-in-Answer : goal.returns-in-Answer
returns-in-Answer g c =
    let old = g.O.Write.contents c.args.out.now in
    let new = g.O.Write.contents c.answer.new.out in
    subst (λ (o : Order). IfOk c.answer.result (CarriesOut old new o)) (sym c.in-Answer.is)
    (subst (λ (d : List ℕ). IfOk c.answer.result (PrintsAnswer (server_limits default_limit) (usual 0)
    c.in-Answer.path c.in-Answer.body.now old new 0 client_end 0 d)) c.as_slice-in-Answer.ensures.value
    c.answer.ensures.printed)
