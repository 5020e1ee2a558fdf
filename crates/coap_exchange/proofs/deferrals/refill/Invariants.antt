use Rattle.std.proofs.Common.{◌≡◌, ◌++◌, drop}
use Rattle.coap_exchange.proofs.deferrals.refill.Given as goal

abbrev pub invariant-loop-request : goal.invariant-loop-request
invariant-loop-request l = l.copies.items ++ drop l.request-index l.requests ≡ l.requests
