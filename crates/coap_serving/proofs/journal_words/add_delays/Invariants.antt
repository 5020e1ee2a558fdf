use Rattle.std.proofs.Common.{◌≡◌, drop, fold}
use Rattle.coap_serving.specs.KeptWords.{with_delay_bytes}
use Rattle.coap_serving.proofs.journal_words.add_delays.Given as goal

abbrev pub invariant-loop-delay : goal.invariant-loop-delay
invariant-loop-delay l =
    fold with_delay_bytes l.inputs.items (drop l.delay-index l.delays)
    ≡ fold with_delay_bytes l.fn.inputs.items l.delays
