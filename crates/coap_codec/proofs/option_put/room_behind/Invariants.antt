use Rattle.std.proofs.Common.{◌≡◌, ◌+◌, true, length, drop}
use Rattle.std.specs.List.{list_all}
use Rattle.coap_types.specs.CoapOption.{options_of}
use Rattle.coap_codec.specs.Refused.{ascends, is_short}
use Rattle.coap_codec.specs.Spelling.{options_bytes}
use Rattle.coap_codec.proofs.option_put.room_behind.Given as goal

abbrev pub invariant-loop-option : goal.invariant-loop-option
invariant-loop-option l = record {
  order : ascends l.base (options_of (drop l.option-index l.options)) ≡ true;
  short : list_all is_short (options_of (drop l.option-index l.options)) ≡ true;
  total : l.left + length (options_bytes 0 (options_of l.options))
      ≡ l.room + length (options_bytes l.base (options_of (drop l.option-index l.options)));
}
