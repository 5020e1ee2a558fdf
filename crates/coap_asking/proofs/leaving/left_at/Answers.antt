use Rattle.std.proofs.Common.{◌≡◌, Option, Some, None, IfNone}
use Rattle.coap_waits.specs.Linked.{called, here}
use Rattle.coap_waits.proofs.Facts.{left_over}
use Rattle.coap_asking.proofs.leaving.left_at.Goals as goal

none_is : {X : Type 0} (P : Type 0) (o : Option X) → IfNone o P → o ≡ None → P
none_is P None h is = h
none_is P (Some x) h is = cc

pub returns-clause-leaves : goal.returns-clause-leaves
returns-clause-leaves g c = (
  none_is _ _ c.given_up.ensures.none c.in_default.is,
  λ silent. absurd (cc (c.is_silent.ensures.1 silent, c.if-is_silent.false)),
  c.cancel_at_end.ensures.cancels,
)

pub returns-then-is_silent-clause-over : goal.returns-then-is_silent-clause-over
returns-then-is_silent-clause-over g c =
    let link = g.L.Link in
    left_over link.sends link.receives link.fault_count _ _ _ _ _ _ _ _ c.leave.ensures.over

pub returns-in-Some-clause-over : goal.returns-in-Some-clause-over
returns-in-Some-clause-over g c = here

pub returns-clause-over : goal.returns-clause-over
returns-clause-over g c = called _ _ _ _ here c.cancel_at_end.ensures.own
