use Rattle.coap_print.proofs.ShownDatagrams.{datagram_shown}
use Rattle.coap_print.proofs.message_words.datagram_law.Goals as goal

pub returns : goal.returns
returns c = datagram_shown c.one_reading.ensures.message c.spelling_law.ensures.of_bytes
