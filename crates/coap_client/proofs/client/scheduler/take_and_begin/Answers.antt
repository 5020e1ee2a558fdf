use Rattle.std.proofs.Common.{map, ap, refl, sym, subst, ◌∙◌}
use Rattle.std.specs.Option.{option_map}
use Rattle.coap_client.specs.Own.{clocked}
use Rattle.coap_client.specs.Effects.{runs}
use Rattle.coap_client.specs.Requests.{message_of}
use Rattle.coap_client.specs.Object.Happens.{Apart, Comes}
use Rattle.coap_client.specs.Object.Held.{own_of, seen}
use Rattle.coap_client.specs.Object.Sends.{Sends}
use Rattle.coap_client.specs.Object.Shown.{shown_observation, shown_operation}
use Rattle.coap_client.proofs.Facts.Calls.PassingLemmas.{drop_shown, first_runs_shown, may_some, started_apart}
use Rattle.coap_client.proofs.Facts.Calls.PassingLemmas.{starts_first}
use Rattle.coap_client.proofs.client.scheduler.take_and_begin.Goals as goal

pub returns-clause-begun : goal.returns-clause-begun
returns-clause-begun g c behind setup h =
    let s = own_of c.args.parts.now.held in
    let q = c.args.parts.now.held.operations.queue in
    let some = may_some c.args.at.0 s s.queue c.requires.may in
    let op = some.0 in
    let is = ap (λ v. option_map (shown_operation {A = g.row.A.Denot}) v.running) c.start_first.ensures
    ∙ (first_runs_shown {A = g.row.A.Denot} q ∙ some.1) in
    let sends = subst (λ l. Sends behind c.args.at.0
    (message_of (map (shown_observation {A = g.row.A.Denot}) l) op) setup c.args.given c.args.parts.now.asker.state)
    (sym (ap (λ v. v.live) c.start_first.ensures)) (h op some.1) in
    subst (λ e. Comes behind e c.args.at.0 setup (seen c.begin.new.parts))
    (ap (λ o. runs op (clocked c.args.at.0 (own_of (record c.args.parts.now.held { operations = o }))))
    c.start_first.ensures
    ∙ (ap (λ k. runs op (clocked c.args.at.0 (record s { queue = k }))) (drop_shown {A = g.row.A.Denot} q)
    ∙ sym (starts_first c.args.at.0 s s.queue op c.requires.may some.1)))
    (c.begin.ensures.begun op behind setup is sends)

pub begin-requires-clause-apart : goal.begin-requires-clause-apart
begin-requires-clause-apart g c =
    let h = c.args.parts.now.held in
    subst (λ o. Apart (own_of (record h { operations = o }))) (sym c.start_first.ensures)
    (started_apart {A = g.row.A.Denot} (own_of h) h.operations.queue refl
    (ap (option_map (shown_operation {A = g.row.A.Denot})) c.requires.none) c.requires.apart)
