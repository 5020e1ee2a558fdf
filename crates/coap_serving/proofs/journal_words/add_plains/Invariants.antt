use Rattle.std.proofs.Common.{◌≡◌, drop, fold}
use Rattle.coap_serving.specs.KeptWords.{with_plain_bytes}
use Rattle.coap_serving.proofs.journal_words.add_plains.Given as goal

abbrev pub invariant-loop-path : goal.invariant-loop-path
invariant-loop-path l =
    fold with_plain_bytes l.inputs.items (drop l.path-index l.paths) ≡ fold with_plain_bytes l.fn.inputs.items l.paths
