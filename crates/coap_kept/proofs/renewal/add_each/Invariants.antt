use Rattle.std.proofs.Common.{◌≡◌, ◌++◌, ℕ, List}
use Rattle.coap_kept.proofs.renewal.add_each.Given as goal

-- so far something was added
abbrev pub invariant-loop-path : goal.invariant-loop-path
invariant-loop-path g l = (more : List ℕ) × (l.bytes.items ≡ l.fn.bytes.items ++ more)
