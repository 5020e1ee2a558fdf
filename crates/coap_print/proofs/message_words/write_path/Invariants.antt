use Rattle.std.proofs.Common.{List, ◌≡◌, ◌++◌}
use Rattle.std.specs.Fmt.{HasWritten, IsPlainFormatter}
use Rattle.coap_types.specs.CoapOption.{CoapOption}
use Rattle.coap_types.specs.RequestPath.{path_of}
use Rattle.coap_print.proofs.WrittenPaths.{is_empty, joined}
use Rattle.coap_print.proofs.message_words.write_path.Given as goal

-- the segments of the first options are written
abbrev pub invariant-loop-option : goal.invariant-loop-option
invariant-loop-option g l =
    (done : List CoapOption) × (done ++ l.option-iterator ≡ l.initial.option-iterator)
    × (l.is_first ≡ is_empty (path_of done))
    × (IsPlainFormatter l.initial.f → HasWritten g.W.Write.write_str_gives l.initial.f (joined (path_of done)) l.f)
