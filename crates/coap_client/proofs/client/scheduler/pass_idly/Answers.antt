use Rattle.std.proofs.Common.{Bor, ap, sym, ◌∙◌}
use Rattle.std.specs.Prelude.{is_some}
use Rattle.coap_operations.specs.Listed.{running_map}
use Rattle.coap_client.specs.declared.client.operation.Waiting.{Waiting}
use Rattle.coap_client.specs.Observations.{to_fetch}
use Rattle.coap_client.specs.Own.{clocked}
use Rattle.coap_client.specs.Object.Held.{own_of}
use Rattle.coap_client.specs.Object.Shown.{shown_operation}
use Rattle.coap_client.specs.Object.Starts.{idle_now}
use Rattle.coap_client.proofs.Facts.Calls.PassingLemmas.{idle_stays, rest_comes, shown_none, shown_some}
use Rattle.coap_client.proofs.client.scheduler.pass_idly.Goals as goal

pub returns-then-is_some-clause-happens : goal.returns-then-is_some-clause-happens
returns-then-is_some-clause-happens g c =
    let s = own_of c.args.parts.now.held in
    rest_comes (clocked c.args.now.at.0 s) (own_of c.rest.new.held) c.args.parts.now.asker.state
    (idle_now c.args.now.at.0 s) c.args.now.at.0 c.args.now.word
    (idle_stays (clocked c.args.now.at.0 s) c.args.now.at.0 s.running (to_fetch s.observations)
    (shown_some (shown_operation {A = g.row.A.Denot}) c.args.parts.now.held.operations.running
    (ap is_some (sym c.running.ensures) ∙ shown_some
    (running_map (λ (w : Bor (Waiting g.row.A.Denot)). w.now)) c.running.result
    (sym c.is_some.ensures ∙ c.if-is_some.true)))) c.rest.ensures

pub start_next-requires-clause-none : goal.start_next-requires-clause-none
start_next-requires-clause-none g c = sym c.running.ensures
    ∙ shown_none (running_map (λ (w : Bor (Waiting g.row.A.Denot)). w.now)) c.running.result
    (sym c.is_some.ensures ∙ c.if-is_some.false)
