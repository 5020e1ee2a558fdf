use Rattle.std.proofs.Common.{◌≡◌, ℕ, ◌<◌, ◌^◌, get_or, drop}
use Rattle.coap_types.specs.declared.options.Opt.{Opt}
use Rattle.coap_types.specs.CoapOption.{options_of}
use Rattle.coap_codec.specs.Refused.{ascends}
use Rattle.coap_codec.proofs.option_list.ascends.Given as goal

abbrev pub invariant-loop-option : goal.invariant-loop-option
invariant-loop-option l = record {
  rest : ascends l.base (options_of (drop l.option-index l.options)) ≡ ascends 0 (options_of l.options);
  numbers : (k : ℕ) (d : Opt) → k < l.option-index → (get_or l.options k d).number < 2 ^ 16;
}
