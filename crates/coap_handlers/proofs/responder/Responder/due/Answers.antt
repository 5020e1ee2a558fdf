use Rattle.std.proofs.Common.{◌≤◌, ◌<◌, ◌^◌, ℕ, List, max, ap, subst}
use Rattle.std.specs.Prelude.{IfSome, IfNone}
use Rattle.coap_layer.specs.declared.setup.Setup.{Setup}
use Rattle.coap_exchange.specs.AnswererLaw.{Led, State}
use Rattle.coap_exchange.specs.AnswererTrace.{Call}
use Rattle.coap_exchange.specs.Machine.Rests.{AnswererRests, AnswererTurns}
use Rattle.coap_handlers.specs.Shown.{Shown}
use Rattle.coap_handlers.proofs.responder.Responder.due.Goals as goal

pub returns-clause-none : goal.returns-clause-none
returns-clause-none g c =
    subst (λ (s : State). IfNone c.due.result ((later : ℕ) → c.args.now.0 ≤ later → later < 2 ^ 64
    → AnswererRests s later))
    (ap (λ (x : Shown). x.state) c.self.view_is) c.due.ensures.none

pub returns-clause-some : goal.returns-clause-some
returns-clause-some g c =
    subst (λ (s : State). IfSome c.due.result (λ at. (later : ℕ) → c.args.now.0 ≤ later → max s.own.clock later < at.0
    → AnswererRests s later)) (ap (λ (x : Shown). x.state) c.self.view_is) c.due.ensures.some

pub returns-clause-does : goal.returns-clause-does
returns-clause-does g c =
    subst (λ (s : State). IfSome c.due.result (λ at. (setup : Setup) (t : List Call) → Led setup t s
    → AnswererTurns s at.0))
    (ap (λ (x : Shown). x.state) c.self.view_is) c.due.ensures.does
