use Rattle.std.proofs.Common.{List, ◌≡◌, ◌++◌}
use Rattle.std.specs.Fmt.{HasWritten, IsPlainFormatter}
use Rattle.coap_types.specs.CoapOption.{CoapOption}
use Rattle.coap_print.specs.Datagrams.{options_text}
use Rattle.coap_print.proofs.message_words.write_options.Given as goal

-- the first options are written
abbrev pub invariant-loop-option : goal.invariant-loop-option
invariant-loop-option g l =
    (done : List CoapOption) × (done ++ l.option-iterator ≡ l.initial.option-iterator)
    × (IsPlainFormatter l.initial.f
    → HasWritten g.W.Write.write_str_gives l.initial.f (options_text l.message.code done) l.f)
