use Rattle.std.proofs.Common.{map, ap, sym, subst, ◌∙◌}
use Rattle.std.specs.Option.{option_map}
use Rattle.coap_client.specs.Own.{Fetching, clocked}
use Rattle.coap_client.specs.Effects.{runs}
use Rattle.coap_client.specs.Requests.{message_of}
use Rattle.coap_client.specs.Object.Happens.{Comes}
use Rattle.coap_client.specs.Object.Held.{own_of, seen}
use Rattle.coap_client.specs.Object.Sends.{Sends}
use Rattle.coap_client.specs.Object.Shown.{shown_observation, shown_operation, shown_reported}
use Rattle.coap_client.proofs.client.scheduler.start_fetch.Goals as goal

pub returns-clause-happens : goal.returns-clause-happens
returns-clause-happens g c =
    let h = c.args.parts.now.held in
    let x = c.args.parts.now.asker.state in
    let op = Fetching c.args.number in
    let is = ap (λ v. option_map (shown_operation {A = g.row.A.Denot}) v.running) c.fetch.ensures in
    let sends = subst (λ l. Sends x c.args.now.at.0
    (message_of (map (shown_observation {A = g.row.A.Denot}) l) op) c.args.now.word c.in_ok-given.given
    c.ask_rest.new.asker.state) (sym (ap (λ v. v.live) c.fetch.ensures)) c.in_ok-given.ensures.sends in
    subst (λ e. Comes x e c.args.now.at.0 c.args.now.word (seen c.begin.new.parts))
    (ap (λ o. runs op (clocked c.args.now.at.0 (own_of (record h { reports = c.reserve.new.self; operations = o }))))
    c.fetch.ensures
    ∙ ap (λ rs. runs op (clocked c.args.now.at.0 (record
    (own_of h) { reports = map (shown_reported {A = g.row.A.Denot}) rs }))) c.reserve.ensures.items)
    (c.begin.ensures.begun op x c.args.now.word is sends)
