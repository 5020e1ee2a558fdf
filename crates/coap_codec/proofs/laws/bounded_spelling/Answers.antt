use Rattle.coap_codec.proofs.Spellings.BoundedLength.{bounded_spelling}
use Rattle.coap_codec.proofs.laws.bounded_spelling.Goals as goal

pub returns : goal.returns
returns c = bounded_spelling
