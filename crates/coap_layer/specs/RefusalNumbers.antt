-- The numbers of the refusals of a message that is to be sent, in the order in which they are tested.
use Rattle.std.specs.Prelude.{ℕ}
use Rattle.coap_layer.specs.declared.up.SendRefusal.{SendRefusal}
use Rattle.coap_layer.specs.declared.up.SendRefusal.TheVariants as send

-- the number of the refusal of a message
abbrev pub send_refusal_number : SendRefusal → ℕ
send_refusal_number send.Outstanding = 1
send_refusal_number send.NoIds = 2
send_refusal_number send.Memory = 3
