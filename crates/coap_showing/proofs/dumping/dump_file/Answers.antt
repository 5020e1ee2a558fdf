use Rattle.coap_showing.specs.Dumps.{IsDumped}
use Rattle.coap_showing.proofs.ReadFiles.{of_file, unread}
use Rattle.coap_showing.proofs.dumping.dump_file.Goals as goal

pub returns-in-Ok-clause-worst : goal.returns-in-Ok-clause-worst
returns-in-Ok-clause-worst g c =
    of_file IsDumped _ _ c.dump_to.result
    (unread g.F.Read.remaining c.in-Ok.input c.args.file c.in-Ok.ensures.inner c.in-Ok.ensures.empty
    c.in-Ok.ensures.capacity) c.dump_to.ensures.worst
