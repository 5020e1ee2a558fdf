use Rattle.coap_print.proofs.WrittenPaths.{path_printable}
use Rattle.coap_print.proofs.place_words.path_law.Goals as goal

pub returns : goal.returns
returns c = path_printable
