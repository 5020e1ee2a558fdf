use Rattle.coap_showing.proofs.ReadFiles.{of_some}
use Rattle.coap_showing.proofs.dumping.dump.Goals as goal

pub returns-in-Ok-clause-worst : goal.returns-in-Ok-clause-worst
returns-in-Ok-clause-worst g c = of_some _ c.in-Ok.file c.dump_file.result c.dump_file.ensures.worst
