use Rattle.std.proofs.Common.{refl, sym, subst, ◌∙◌}
use Rattle.coap_client.specs.Object.Happens.{Watched}
use Rattle.coap_client.specs.Object.Held.{own_of, seen}
use Rattle.coap_client.proofs.Facts.Calls.Happening.{err_of, fed_by, ok_of, on_ok}
use Rattle.coap_client.proofs.Calls.Watched.{apart, led_step, undone, watched}
use Rattle.coap_client.proofs.client.Client.feed.Goals as goal

pub happen-done-requires-clause-apart : goal.happen-done-requires-clause-apart
happen-done-requires-clause-apart g c = apart (seen c.self.inside.parts) c.self.invariant

pub happen-done-requires-clause-watched : goal.happen-done-requires-clause-watched
happen-done-requires-clause-watched g c = subst (λ k. Watched k (own_of c.self.inside.parts.held)) (sym
    c.later-at.ensures)
    (watched (seen c.self.inside.parts) c.args.now.0 c.self.invariant)

pub returns-else-is_err-clause-step : goal.returns-else-is_err-clause-step
returns-else-is_err-clause-step g c =
    let step = c.in_ok-event.ensures.step in
    on_ok c.happen-done.result
    (λ h.
    let s = fed_by (own_of c.self.inside.parts.held) c.self.inside.parts.asker.state c.receive.new.self.state
    c.args.self.now _
    c.args.now.0 c.later-at.result.0 c.args.from c.args.bytes.now c.args.word step.0 step.1 c.in_ok-event.event
    c.self.view_is c.later-at.ensures step.2 h in
    (step.0, step.1, c.in_ok-event.event, s.0, s.1, s.2, s.3))
    c.happen-done.ensures.happens

pub invariant_of-self-else-is_err : goal.invariant_of-self-else-is_err
invariant_of-self-else-is_err g c =
    let old = seen c.self.inside.parts in
    let step = c.in_ok-event.ensures.step in
    let h = ok_of c.happen-done.result (sym c.is_err.ensures.value ∙ c.if-is_err.false) c.happen-done.ensures.happens in
    let s = fed_by (own_of c.self.inside.parts.held) c.self.inside.parts.asker.state c.receive.new.self.state old _
    c.args.now.0
    c.later-at.result.0 c.args.from c.args.bytes.now c.args.word step.0 step.1 c.in_ok-event.event refl
    c.later-at.ensures step.2 h in
    led_step old _ _ c.self.invariant s.3

pub invariant_of-self-then-is_err : goal.invariant_of-self-then-is_err
invariant_of-self-then-is_err g c =
    undone (own_of c.self.inside.parts.held) (own_of c.happen-done.new.parts.held) c.self.inside.parts.asker.state
    c.undo.new.self.state
    c.happen-done.new.parts.asker.before (err_of c.happen-done.result
    (sym c.is_err.ensures.value ∙ c.if-is_err.true) c.happen-done.ensures.held)
    c.undo.ensures.back (c.happen-done.ensures.before ∙ c.in_ok-event.ensures.before) c.self.invariant
