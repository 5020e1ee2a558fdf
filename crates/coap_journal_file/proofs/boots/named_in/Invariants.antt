use Rattle.std.proofs.Common.{◌≡◌, drop, fold}
use Rattle.coap_journal_file.specs.Boots.{named_with, no_name}
use Rattle.coap_journal_file.proofs.boots.named_in.Given as goal

abbrev pub invariant-loop-byte : goal.invariant-loop-byte
invariant-loop-byte l = fold named_with l.named (drop l.byte-index l.fn.text) ≡ fold named_with no_name l.fn.text
