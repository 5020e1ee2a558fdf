use Rattle.std.proofs.Common.{◌≡◌, Err, ap, sym, subst, ◌∙◌}
use Rattle.coap_record.specs.Events.{Config}
use Rattle.coap_record.specs.Legal.{IsConfig}
use Rattle.coap_run.specs.Run.Happening.{event_of}
use Rattle.coap_run.specs.declared.running.RunRefusal.TheVariants.{NotLegal}
use Rattle.coap_run.proofs.Recording.Runs.{is_run}
use Rattle.coap_run.proofs.Recording.Standing.{begins, recorded}
use Rattle.coap_run.proofs.running.run_with.Goals as goal

pub returns-in-Ok-done-clause-record : goal.returns-in-Ok-done-clause-record
returns-in-Ok-done-clause-record g c =
    let k = c.args.config.now in
    let st = c.in-Ok-done.ensures.record k (ap (λ (x : Config). x.addresses) (sym c.config.view_is))
    (begins g.S.Store.content k _ _ _ c.new-log.ensures
    (subst IsConfig c.config.view_is c.config.invariant) c.client_of-client.ensures c.in-Ok.ensures) in
    is_run event_of c.args.events.now k st.0 c.run_over-done.new.log
    (recorded g.S.Store.content k _ st.0 _ _ _ _ st.2) st.2.legal st.2.lacks st.2.log_is

pub returns-in-Err-done-clause-wrong : goal.returns-in-Err-done-clause-wrong
returns-in-Err-done-clause-wrong g c = λ number e.
    let k = c.args.config.now in
    let why : c.in-Err-done.why ≡ NotLegal number = cc e in
    c.run_over-done.ensures.wrong number (c.in-Err-done.is ∙ ap Err why) k
    (ap (λ (x : Config). x.addresses) (sym c.config.view_is))
    (begins g.S.Store.content k _ _ _ c.new-log.ensures
    (subst IsConfig c.config.view_is c.config.invariant) c.client_of-client.ensures c.in-Ok.ensures)
