use Rattle.coap_showing.proofs.ReadFiles.{of_some}
use Rattle.coap_showing.proofs.captured.dump_capture.Goals as goal

pub returns-in-Ok-clause-exact : goal.returns-in-Ok-clause-exact
returns-in-Ok-clause-exact g c =
    of_some _ c.in-Ok.file c.dump_capture_in.result c.dump_capture_in.ensures.exact
