use Rattle.coap_codec.proofs.Spellings.OneSpelling.{one_spelling}
use Rattle.coap_codec.proofs.laws.one_spelling.Goals as goal

pub returns : goal.returns
returns c = one_spelling
