-- What is short enough may be sent.
use Rattle.std.proofs.Common.{◌≡◌, ◌<◌, ℕ, length, ap, arith}
use Rattle.coap_types.specs.declared.message.Kind.{Kind}
use Rattle.coap_types.specs.declared.message.Kind.TheVariants.{Con}
use Rattle.coap_codec.specs.BoundedSpelling.{CanBeSpelled}
use Rattle.coap_codec.specs.Message.{Message}
use Rattle.coap_codec.specs.Spelling.{message_bytes}
use Rattle.coap_codec.proofs.Facts.Spelling.{one_spelling, bounded_spelling, spelled_by}
use Rattle.coap_layer.specs.Sendable.{IsSendableWhenShort}
use Rattle.coap_layer.specs.Trace.{Content, with_head}
use Rattle.coap_types.specs.declared.message.TheConstants.{MESSAGE_IDS as message_ids}

can_be : (c : Content) (kind : Kind) (id : ℕ) → id < message_ids → CanBeSpelled (with_head Con 0 c)
    → CanBeSpelled (with_head kind id c)
can_be c kind id small can = record {
  some = can.some;
  code = can.code;
  id = small;
  token = can.token;
  order = can.order;
  numbers = can.numbers;
  short = can.short;
}

pub sendable_when_short : IsSendableWhenShort
sendable_when_short c can fits = record {
  code = λ e. let some = can.some in absurd (omega (arith, e));
  spelled = λ kind id small. spelled_by (with_head kind id c) (can_be c kind id small can);
  fits = λ kind id small.
      let m : Message = with_head kind id c in
      let here = spelled_by m (can_be c kind id small can) in
      let there = bounded_spelling m (can_be c kind id small can) in
      let same : length (message_bytes m) ≡ length there.0 =
      ap length (one_spelling m (message_bytes m) there.0 here there.1) in
      let most = there.2 in
      omega (arith, same, most);
}
