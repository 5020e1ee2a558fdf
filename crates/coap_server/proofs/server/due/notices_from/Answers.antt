use Rattle.std.proofs.Common.{sym, ◌∙◌}
use Rattle.coap_server.proofs.Calls.TicksWhenDue.{first_taken, never_free, never_taken}
use Rattle.coap_server.proofs.server.due.notices_from.Goals as goal

pub returns-then-can_notify : goal.returns-then-can_notify
returns-then-can_notify g c late =
    first_taken c.args.exchanges.now.state c.args.observers.now.list c.args.from.0 late c.in-Some.at.0 c.in-Some.ensures
    (sym c.can_notify.ensures ∙ c.if-can_notify.true)

pub returns-else-can_notify : goal.returns-else-can_notify
returns-else-can_notify g c late =
    never_taken c.args.exchanges.now.state c.args.observers.now.list c.args.from.0 late c.in-Some.at.0 c.in-Some.ensures
    (sym c.can_notify.ensures ∙ c.if-can_notify.false)

pub returns-in-None : goal.returns-in-None
returns-in-None g c late =
    never_free c.args.exchanges.now.state c.args.observers.now.list c.args.from.0 late c.in-None.ensures
