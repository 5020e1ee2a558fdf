use Rattle.std.proofs.Common.{Bor, ap, sym, ◌∙◌}
use Rattle.std.specs.Prelude.{is_some}
use Rattle.std.specs.Option.{option_map}
use Rattle.coap_operations.specs.Listed.{running_map}
use Rattle.coap_client.specs.declared.client.operation.Waiting.{Waiting}
use Rattle.coap_client.specs.Object.Held.{own_of}
use Rattle.coap_client.specs.Object.Shown.{shown_operation}
use Rattle.coap_client.proofs.Facts.Calls.PassingLemmas.{shown_none, shown_some}
use Rattle.coap_client.proofs.Calls.DueLemmas.{begins_never, begins_now, begins_first}
use Rattle.coap_client.proofs.client.due.begins_from.Goals as goal

pub returns-then-is_some-clause-first : goal.returns-then-is_some-clause-first
returns-then-is_some-clause-first g c =
    begins_never (own_of c.args.held.now) c.args.from.0
    (shown_some (shown_operation {A = g.row.A.Denot}) c.args.held.now.operations.running
    (ap is_some (sym c.running.ensures) ∙ shown_some
    (running_map (λ (w : Bor (Waiting g.row.A.Denot)). w.now)) c.running.result
    (sym c.is_some.ensures ∙ c.if-is_some.true)))

pub returns-in-Some-clause-first : goal.returns-in-Some-clause-first
returns-in-Some-clause-first g c =
    begins_now (own_of c.args.held.now) c.args.from.0 c.in-Some._number
    (ap (option_map (shown_operation {A = g.row.A.Denot}))
    (sym c.running.ensures ∙ shown_none (running_map (λ (w : Bor (Waiting g.row.A.Denot)). w.now)) c.running.result
    (sym c.is_some.ensures ∙ c.if-is_some.false)))
    (sym c.to_fetch.ensures ∙ c.in-Some.is)

pub returns-in-None-clause-first : goal.returns-in-None-clause-first
returns-in-None-clause-first g c =
    begins_first (own_of c.args.held.now) c.args.from.0 c.first_may_start.result
    (ap (option_map (shown_operation {A = g.row.A.Denot}))
    (sym c.running.ensures ∙ shown_none (running_map (λ (w : Bor (Waiting g.row.A.Denot)). w.now)) c.running.result
    (sym c.is_some.ensures ∙ c.if-is_some.false)))
    (sym c.to_fetch.ensures ∙ c.in-None.is) c.first_may_start.ensures
