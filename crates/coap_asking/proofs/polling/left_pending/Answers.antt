use Rattle.std.proofs.Common.{◌≡◌, Option, Some, None, IfNone, refl}
use Rattle.coap_waits.proofs.Facts.{no_call}
use Rattle.coap_asking.proofs.PolledCalls.{left_closed, left_none, left_waiting}
use Rattle.coap_asking.proofs.polling.left_pending.Goals as goal

none_is : {X : Type 0} (P : Type 0) (o : Option X) → IfNone o P → o ≡ None → P
none_is P None h is = h
none_is P (Some x) h is = cc

pub returns-in_default-clause-left : goal.returns-in_default-clause-left
returns-in_default-clause-left g c = left_none c.args.pending c.args.client.now c.in_default.is

pub returns-in-Some-next_report_of-clause-left : goal.returns-in-Some-next_report_of-clause-left
returns-in-Some-next_report_of-clause-left g c =
    left_closed c.args.pending c.in-Some.id _ c.args.client.now _ c.in-Some.is c.in-Some-next_report_of.ensures.some

pub returns-in-None-clause-left : goal.returns-in-None-clause-left
returns-in-None-clause-left g c =
    left_waiting c.args.pending c.in-Some.id c.args.client.now _ c.in-Some.is
    (none_is _ _ c.next_report_of.ensures.none c.in-None.is)

pub returns-in_default-clause-own : goal.returns-in_default-clause-own
returns-in_default-clause-own g c = no_call _ _ refl
