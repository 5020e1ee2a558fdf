use Rattle.std.proofs.Common.{rules}
use Rattle.coap_exchange.proofs.arrivals.verdict.Goals as goal

pub returns-in-Response : goal.returns-in-Response
returns-in-Response c clock setup = let k = c.known.ensures clock setup in search rules

pub returns-in-Acked : goal.returns-in-Acked
returns-in-Acked c clock setup = let k = c.is_of_request.ensures clock setup in search rules

pub returns-in-Reset : goal.returns-in-Reset
returns-in-Reset c clock setup = let k = c.is_of_request-in-Reset.ensures clock setup in search rules
