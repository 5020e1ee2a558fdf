use Rattle.std.proofs.Common.{◌≡◌, ◌∙◌, ◌≤◌, ap, sym, subst}
use Rattle.coap_commands.specs.Statuses.{IsAnswered, IsCarriedTo, status_of}
use Rattle.coap_status.specs.StatusNumbers.{status_number}
use Rattle.coap_commands.proofs.Statuses.{answered, asked, wrong_words}
use Rattle.coap_commands.proofs.driver.command_on.Goals as goal

pub returns-clause-wrong : goal.returns-clause-wrong
returns-clause-wrong g c = λ wrong is.
    let n : c.number.result ≡ status_number (status_of c.run-ended.result) = c.number.ensures
    ∙ ap status_number c.close.ensures in
    subst (IsAnswered wrong) (sym n) (answered _ _ _ _ c.run-ended.ensures wrong is)

pub returns-clause-words : goal.returns-clause-words
returns-clause-words g c = λ h.
    let n : c.number.result ≡ status_number (status_of c.run-ended.result) = c.number.ensures
    ∙ ap status_number c.close.ensures in
    wrong_words _ _ _ _ c.run-ended.ensures (sym n ∙ h)

pub returns-clause-done : goal.returns-clause-done
returns-clause-done g c = λ h.
    let n : c.number.result ≡ status_number (status_of c.run-ended.result) = c.number.ensures
    ∙ ap status_number c.close.ensures in
    let is = asked _ _ _ _ c.run-ended.ensures (subst (λ k. k ≤ 1) n h) in
    let old = g.O.Write.contents c.args.out.now in
    let new = g.O.Write.contents c.run-ended.new.out in
    (is.0, is.1, subst (IsCarriedTo old new is.0) (sym n) is.2)
