-- The numbers of the refusals of a path's setting.
use Rattle.std.specs.Prelude.{ℕ}
use Rattle.coap_server.specs.declared.server.delays.DelayRefusal.{DelayRefusal}
use Rattle.coap_server.specs.declared.server.delays.DelayRefusal.TheVariants as delay
use Rattle.coap_server.specs.declared.server.plain.PlainRefusal.{PlainRefusal}
use Rattle.coap_server.specs.declared.server.plain.PlainRefusal.TheVariants as plain

-- the number of the refusal of a path's delay
abbrev pub delay_refusal_number : DelayRefusal → ℕ
delay_refusal_number delay.Full = 1
delay_refusal_number delay.Memory = 2

-- the number of the refusal of a plain path
abbrev pub plain_refusal_number : PlainRefusal → ℕ
plain_refusal_number plain.Full = 1
plain_refusal_number plain.Memory = 2
