use Rattle.coap_client.specs.Trace.{Cancels}
use Rattle.coap_waits.proofs.Facts.{own_call}
use Rattle.coap_asking.proofs.leaving.cancel_at_end.Goals as goal

pub returns-then-is_over-clause-own : goal.returns-then-is_over-clause-own
returns-then-is_over-clause-own g c = own_call _ _ (Cancels c.args.now.0 c.args.id.0 _) tt c.cancel-answer.ensures.step
