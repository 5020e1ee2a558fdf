use Rattle.std.proofs.Common.{◌<◌, ◌+◌, ℕ, drop}
use Rattle.coap_journal.specs.Frames.{BeginsHead}
use Rattle.coap_journal.proofs.wholeness.tail_of.Given as goal

abbrev pub invariant-loop-n : goal.invariant-loop-n
invariant-loop-n l = (n : ℕ) → 0 < n → n < l.n → BeginsHead (l.fn.place + n) (drop n l.fn.bytes) → ⊥
