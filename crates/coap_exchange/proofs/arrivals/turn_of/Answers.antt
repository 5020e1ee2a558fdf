use Rattle.std.proofs.Common.{rules}
use Rattle.coap_exchange.proofs.arrivals.turn_of.Goals as goal

pub returns-in-Expired : goal.returns-in-Expired
returns-in-Expired c clock setup answer is = let k = c.is_of_request.ensures clock setup in search rules
