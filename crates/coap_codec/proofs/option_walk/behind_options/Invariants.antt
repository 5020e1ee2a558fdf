use Rattle.std.proofs.Common.{◌≡◌, ◌≤◌, length}
use Rattle.coap_codec.specs.Reading.{walk}
use Rattle.coap_codec.proofs.option_walk.behind_options.Given as goal

abbrev pub invariant-loop-option : goal.invariant-loop-option
invariant-loop-option l = record {
  short : length l.rest ≤ length l.bytes;
  rest : (walk l.number l.rest).rest ≡ (walk 0 l.bytes).rest;
  reason : (walk l.number l.rest).reason ≡ (walk 0 l.bytes).reason;
}

abbrev pub decreases-loop-option : goal.decreases-loop-option
decreases-loop-option l = length l.rest
