use Rattle.coap_client.specs.Trace.{Cancels}
use Rattle.coap_waits.proofs.Facts.{own_call}
use Rattle.coap_asking.proofs.ObservedCalls.{observed_cancel}
use Rattle.coap_asking.proofs.observe.cancel_at_end.Goals as goal

pub returns-then-is_over-clause-observed : goal.returns-then-is_over-clause-observed
returns-then-is_over-clause-observed g c = λ s h.
    observed_cancel c.args.options.now c.args.begin.0 c.args.id.0 c.args.values c.args.now.0 _ s _ _ h
    (c.is_over.ensures.0 c.if-is_over.true) c.cancel-answer.ensures.step

pub returns-then-is_over-clause-cancels : goal.returns-then-is_over-clause-cancels
returns-then-is_over-clause-cancels g c = λ over. (_, c.cancel-answer.ensures.step)

pub returns-then-is_over-clause-own : goal.returns-then-is_over-clause-own
returns-then-is_over-clause-own g c = own_call _ _ (Cancels c.args.now.0 c.args.id.0 _) tt c.cancel-answer.ensures.step
