use Rattle.std.proofs.Common.{◌≡◌, ◌+◌, ◌++◌, ℕ, List, true, length, drop}
use Rattle.std.specs.List.{list_all}
use Rattle.coap_types.specs.CoapOption.{options_of}
use Rattle.coap_codec.specs.Refused.{ascends, is_short}
use Rattle.coap_codec.specs.Writing.{Puts}
use Rattle.coap_codec.specs.Spelling.{options_bytes}
use Rattle.coap_codec.proofs.option_put.put_options.Given as goal

abbrev pub invariant-loop-option : goal.invariant-loop-option
invariant-loop-option l = record {
  order : ascends l.base (options_of (drop l.option-index l.options)) ≡ true;
  short : list_all is_short (options_of (drop l.option-index l.options)) ≡ true;
  same : length l.out ≡ length l.fn.out;
  done : (done : List ℕ) × (options_bytes 0 (options_of l.options) ≡ done
      ++ options_bytes l.base (options_of (drop l.option-index l.options)))
      × (l.at ≡ l.start + length done) × Puts l.fn.out l.start done l.out;
}
