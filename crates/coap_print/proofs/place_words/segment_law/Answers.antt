use Rattle.coap_print.proofs.WrittenSegments.{printable}
use Rattle.coap_print.proofs.place_words.segment_law.Goals as goal

pub returns : goal.returns
returns c = printable
