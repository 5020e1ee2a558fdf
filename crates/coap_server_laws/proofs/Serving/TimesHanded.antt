-- Each request that is handed up is served at most once.
use Rattle.std.proofs.Common.{ℕ, List}
use Rattle.coap_exchange.specs.declared.answerer.Asked.{Asked}
use Rattle.coap_exchange.specs.AnswererTrace as E
use Rattle.coap_exchange.specs.AnswererFollows as F

abbrev pub H : Asked → List E.Call → ℕ
H a calls = F.times_handed a calls
