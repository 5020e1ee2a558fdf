use Rattle.std.proofs.Common.{◌≡◌, ◌++◌, drop}
use Rattle.coap_exchange.proofs.kept_tokens.refill.Given as goal

abbrev pub invariant-loop-token : goal.invariant-loop-token
invariant-loop-token l = l.copies.items ++ drop l.token-index l.tokens ≡ l.tokens
