use Rattle.coap_options.proofs.Onward.{begins}
use Rattle.coap_options.proofs.cursor.Cursor.begin.Goals as goal

pub returns-in-Ok-clause-some : goal.returns-in-Ok-clause-some
returns-in-Ok-clause-some c =
    let it = begins c.args.datagram.now c.in-Ok.message c.token.result.now c.marked_len.result c.in-Ok.ensures.found
    c.token.ensures.bytes c.marked_len.ensures in (c.in-Ok.message, c.in-Ok.ensures.found, it.0, it.1)
