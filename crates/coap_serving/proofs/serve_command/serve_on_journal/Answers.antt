use Rattle.coap_serving.proofs.KeptCalls.{no_answer}
use Rattle.coap_serving.proofs.serve_command.serve_on_journal.Goals as goal

pub returns-in-Six : goal.returns-in-Six
returns-in-Six g c = no_answer _ c.refuse_six.result c.refuse_six.ensures
