use Rattle.std.proofs.Common.{map, ap, sym, subst, true}
use Rattle.coap_client.specs.Own.{Own, clocked}
use Rattle.coap_client.specs.Effects.{Effect}
use Rattle.coap_client.specs.Events.{failed, passes}
use Rattle.coap_client.specs.Object.Happens.{Comes}
use Rattle.coap_client.specs.Object.Held.{own_of, seen}
use Rattle.coap_client.specs.Object.Shown.{shown_report, shown_reported}
use Rattle.coap_client.proofs.Facts.Calls.PassingLemmas.{rest_comes}
use Rattle.coap_client.proofs.client.scheduler.pass_time.Goals as goal

pub returns-in-Copied-clause-happens : goal.returns-in-Copied-clause-happens
returns-in-Copied-clause-happens g c =
    let s = clocked c.args.now.at.0 (own_of c.args.parts.now.held) in
    rest_comes (record s { sent = c.args.now.at.0 }) (own_of c.rest.new.held) c.args.parts.now.asker.state
    (passes s c.args.now.at.0 c.args.turn) c.args.now.at.0 c.args.now.word
    (ap (λ t. passes s c.args.now.at.0 t) c.in-Copied.is) c.rest.ensures

pub returns-in_ok-reserve-in-End-clause-happens : goal.returns-in_ok-reserve-in-End-clause-happens
returns-in_ok-reserve-in-End-clause-happens g c =
    let s = own_of c.args.parts.now.held in
    let new = seen c.lapse.new.parts in
    subst (λ (e : Effect). Comes c.args.parts.now.asker.state e c.args.now.at.0 c.args.now.word new)
    (sym (ap (λ t. passes (clocked c.args.now.at.0 s) c.args.now.at.0 t) c.in-End.is))
    (subst (λ report. Comes c.args.parts.now.asker.state
    (failed (λ t. true) report (clocked c.args.now.at.0 s) s.running) c.args.now.at.0 c.args.now.word new)
    c.report_of.ensures
    (subst (λ (o : Own). Comes c.args.parts.now.asker.state
    (failed (λ t. true) (shown_report {A = g.row.A.Denot} c.report_of.result) (clocked c.args.now.at.0 o) o.running)
    c.args.now.at.0 c.args.now.word new)
    (ap (λ rs. record s { reports = map (shown_reported {A = g.row.A.Denot}) rs }) c.reserve.ensures.items)
    (c.lapse.ensures.comes c.args.now.word)))
