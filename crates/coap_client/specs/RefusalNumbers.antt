-- The numbers of the refusals of a client's calls, in the order in which they are tested, but for want of memory.
use Rattle.std.specs.Prelude.{ℕ}
use Rattle.coap_client.specs.declared.refusals.CallRefusal.{CallRefusal}
use Rattle.coap_client.specs.declared.refusals.CallRefusal.TheVariants as call
use Rattle.coap_client.specs.declared.refusals.CancelRefusal.{CancelRefusal}
use Rattle.coap_client.specs.declared.refusals.CancelRefusal.TheVariants as cancel

-- the number of the refusal of a call or an observation
abbrev pub call_refusal_number : CallRefusal → ℕ
call_refusal_number call.QueueFull = 1
call_refusal_number call.BodyTooLarge = 2
call_refusal_number call.BadPath = 3
call_refusal_number call.Memory = 4
call_refusal_number call.WatchesFull = 5
call_refusal_number call.CallsSpent = 6

-- the number of the refusal of a cancel
abbrev pub cancel_refusal_number : CancelRefusal → ℕ
cancel_refusal_number cancel.Unknown = 1
cancel_refusal_number cancel.QueueFull = 2
