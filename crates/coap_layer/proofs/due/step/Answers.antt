use Rattle.coap_layer.specs.Words.{Open}
use Rattle.coap_layer.specs.Machine.State.{is_copy_due, is_failed}
use Rattle.coap_layer.proofs.due.step.Goals as goal

pub returns : goal.returns
returns g c =
    let con : Open = record {
      to = c.args.c.now.to;
      id = c.args.c.now.id.0;
      bytes = c.args.c.now.bytes.items;
      timeout = c.args.c.now.timeout;
      first = c.args.c.now.first.0;
      last = c.args.last.0;
    } in
    c.earlier.ensures (λ now. is_failed now con) (λ now. is_copy_due now con) c.args.from.0 c.failure.ensures
    c.copy.ensures
