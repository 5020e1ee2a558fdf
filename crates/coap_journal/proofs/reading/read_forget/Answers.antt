use Rattle.coap_journal.proofs.Written.{none_forget}
use Rattle.coap_journal.proofs.reading.read_forget.Goals as goal

pub returns-clause-none : goal.returns-clause-none
returns-clause-none c = none_forget c.read_endpoint.result c.args.bytes.now c.read_endpoint.ensures.lacks
