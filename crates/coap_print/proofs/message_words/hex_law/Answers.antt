use Rattle.coap_print.proofs.WrittenHex.{hex_printable}
use Rattle.coap_print.proofs.message_words.hex_law.Goals as goal

pub returns : goal.returns
returns c = hex_printable
