use Rattle.coap_run.proofs.Recording.Asking.{noted_so}
use Rattle.coap_run.proofs.running.senders.Senders.note.Goals as goal

pub returns : goal.returns
returns g c = λ other. noted_so c.args.token other c.args.id _ _ (c.in_ok-_before.ensures.updates.0 other)
