use Rattle.std.proofs.Common.{◌≡◌, ◌++◌, length}
use Rattle.coap_journal.specs.Input.{AreShort, texts}
use Rattle.coap_journal.proofs.reading.read_texts.Given as goal

abbrev pub invariant-loop : goal.invariant-loop
invariant-loop g l = (length l.path ≡ l.counter) × (l.fn.bytes ≡ texts l.path ++ l.rest) × AreShort l.path
