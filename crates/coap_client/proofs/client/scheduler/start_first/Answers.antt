use Rattle.std.proofs.Common.{◌≡◌, true, false, map, ap, sym, subst, ◌∙◌}
use Rattle.coap_client.specs.Own.{Own, clocked}
use Rattle.coap_client.specs.Effects.{Effect}
use Rattle.coap_client.specs.Steps.{asks}
use Rattle.coap_client.specs.Object.Happens.{Comes}
use Rattle.coap_client.specs.Object.Held.{own_of, seen}
use Rattle.coap_client.specs.Object.Shown.{shown_reported}
use Rattle.coap_client.specs.Object.Starts.{starts_now}
use Rattle.coap_client.proofs.Facts.Calls.PassingLemmas.{rest_comes, starts_ask, starts_rests}
use Rattle.coap_client.proofs.client.scheduler.start_first.Goals as goal

pub returns-in_ok-given-clause-happens : goal.returns-in_ok-given-clause-happens
returns-in_ok-given-clause-happens g c =
    subst (λ (s : Own). Comes c.args.parts.now.asker.state (starts_now c.args.now.at.0 s) c.args.now.at.0
    c.args.now.word
    (seen c.take_and_begin.new.parts))
    (ap (λ rs. record (own_of c.args.parts.now.held) { reports = map (shown_reported {A = g.row.A.Denot}) rs })
    c.reserve.ensures.items)
    (c.take_and_begin.ensures.begun c.args.parts.now.asker.state c.args.now.word c.in_ok-given.ensures.sends)

pub returns-in_ok-given-clause-did : goal.returns-in_ok-given-clause-did
returns-in_ok-given-clause-did g c = let s = own_of c.args.parts.now.held in
    starts_ask c.args.now.at.0 s s.queue (sym c.may_start.ensures ∙ c.if-may_start.true)

pub returns-else-may_start-clause-happens : goal.returns-else-may_start-clause-happens
returns-else-may_start-clause-happens g c =
    let s = own_of c.args.parts.now.held in
    rest_comes (clocked c.args.now.at.0 s) (own_of c.rest.new.held) c.args.parts.now.asker.state
    (starts_now c.args.now.at.0 s) c.args.now.at.0 c.args.now.word
    (starts_rests c.args.now.at.0 s s.queue (sym c.may_start.ensures ∙ c.if-may_start.false)) c.rest.ensures

pub returns-else-may_start-clause-did : goal.returns-else-may_start-clause-did
returns-else-may_start-clause-did g c =
    let s = own_of c.args.parts.now.held in ap (λ (e : Effect). asks e.deed)
    (sym (starts_rests c.args.now.at.0 s s.queue (sym c.may_start.ensures ∙ c.if-may_start.false)))

pub returns-in_err-reserve-clause-quiet : goal.returns-in_err-reserve-clause-quiet
returns-in_err-reserve-clause-quiet g c h =
    let s = own_of c.args.parts.now.held in
    let begins : true ≡ false = starts_ask c.args.now.at.0 s s.queue (sym c.may_start.ensures ∙ c.if-may_start.true)
    ∙ h in
    absurd (cc begins)

pub returns-in_err-given-clause-quiet : goal.returns-in_err-given-clause-quiet
returns-in_err-given-clause-quiet g c h =
    let s = own_of c.args.parts.now.held in
    let begins : true ≡ false = starts_ask c.args.now.at.0 s s.queue (sym c.may_start.ensures ∙ c.if-may_start.true)
    ∙ h in
    absurd (cc begins)
