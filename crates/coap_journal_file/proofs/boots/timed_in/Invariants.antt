use Rattle.std.proofs.Common.{◌≡◌, drop, fold}
use Rattle.coap_journal_file.specs.Boots.{no_time, timed_with}
use Rattle.coap_journal_file.proofs.boots.timed_in.Given as goal

abbrev pub invariant-loop-byte : goal.invariant-loop-byte
invariant-loop-byte l = fold timed_with l.timed (drop l.byte-index l.fn.text) ≡ fold timed_with no_time l.fn.text
