use Rattle.coap_showing.specs.Captured.{IsCaptureStatus}
use Rattle.coap_showing.proofs.ReadFiles.{of_read}
use Rattle.coap_showing.proofs.captured.dump_capture_in.Goals as goal

pub returns-in-Ok-clause-exact : goal.returns-in-Ok-clause-exact
returns-in-Ok-clause-exact g c =
    of_read IsCaptureStatus _ _ _ _ c.show_capture.result c.in-Ok.ensures.bytes c.new-bytes.ensures.items
    c.as_slice.ensures.value c.show_capture.ensures
