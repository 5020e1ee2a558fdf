use Rattle.std.proofs.Common.{◌≡◌, ◌≤◌, ◌∙◌, ℕ, max, ap, arith, subst}
use Rattle.coap_types.specs.FirstMoment.{IsFirstMoment}
use Rattle.coap_exchange.specs.AnswererLaw as X
use Rattle.coap_exchange.specs.Machine.Rests.{has_due}
use Rattle.coap_server.specs.Turns.WhenDue.{has_work, latest}
use Rattle.coap_server.specs.Turns.Idle.{takes_notice}
use Rattle.coap_server.specs.Object.Shown.{seen}
use Rattle.coap_server.specs.Led.{State}
use Rattle.coap_server.proofs.server.due.due_parts.Goals as goal

pub returns-clause-first : goal.returns-clause-first
returns-clause-first g c =
    let p = c.args.parts.now in
    let x : X.State = p.exchanges.state in
    let s : State = seen g.S.Store.content p in
    let from = c.later-from.result.0 in
    let at : from ≡ latest s = c.later-from.ensures ∙ ap (λ (n : ℕ). max n p.clock.0) c.clock.ensures.own in
    let same : max x.own.clock from ≡ from = omega (arith, at) in
    let late : x.own.clock ≤ from = omega (arith, at) in
    let dues : IsFirstMoment (has_due x) from c.due.result =
    subst (λ (n : ℕ). IsFirstMoment (has_due x) n c.due.result) same c.due.ensures.first in
    let here : IsFirstMoment (has_work s) from c.earlier.result =
    c.earlier.ensures (has_due x) (λ now. takes_notice x now p.observers.list) from dues
    (c.notices_from.ensures late) in
    subst (λ (n : ℕ). IsFirstMoment (has_work s) n c.earlier.result) at here
