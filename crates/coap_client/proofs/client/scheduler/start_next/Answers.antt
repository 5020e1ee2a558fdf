use Rattle.std.proofs.Common.{◌≡◌, true, false, ap, sym, subst, ◌∙◌}
use Rattle.std.specs.Prelude.{IfOk, IsOk, OnOk}
use Rattle.std.specs.Option.{option_map}
use Rattle.coap_client.specs.Observations.{to_fetch}
use Rattle.coap_client.specs.Own.{clocked}
use Rattle.coap_client.specs.Effects.{Effect}
use Rattle.coap_client.specs.Steps.{asks}
use Rattle.coap_client.specs.Object.Happens.{Comes}
use Rattle.coap_client.specs.Object.Held.{own_of, seen}
use Rattle.coap_client.specs.Object.Shown.{shown_operation}
use Rattle.coap_client.proofs.Facts.Calls.PassingLemmas.{idle_fetches, idle_starts}
use Rattle.coap_client.proofs.client.scheduler.start_next.Goals as goal

pub returns-in-Some-clause-happens : goal.returns-in-Some-clause-happens
returns-in-Some-clause-happens g c =
    let s = own_of c.args.parts.now.held in
    subst (λ (e : Effect). OnOk c.start_fetch.result
    (Comes c.args.parts.now.asker.state e c.args.now.at.0 c.args.now.word
    (seen c.start_fetch.new.parts)))
    (sym (idle_fetches (clocked c.args.now.at.0 s) c.args.now.at.0 s.running (to_fetch s.observations) c.in-Some.number
    (ap (option_map (shown_operation {A = g.row.A.Denot})) c.requires.none)
    (sym c.to_fetch.ensures ∙ c.in-Some.is)))
    c.start_fetch.ensures.happens

pub returns-in-Some-clause-did : goal.returns-in-Some-clause-did
returns-in-Some-clause-did g c =
    let s = own_of c.args.parts.now.held in
    subst (λ (e : Effect). IfOk c.start_fetch.result (λ did. did ≡ asks e.deed))
    (sym (idle_fetches (clocked c.args.now.at.0 s) c.args.now.at.0 s.running (to_fetch s.observations) c.in-Some.number
    (ap (option_map (shown_operation {A = g.row.A.Denot})) c.requires.none)
    (sym c.to_fetch.ensures ∙ c.in-Some.is)))
    c.start_fetch.ensures.did

pub returns-in-None-clause-happens : goal.returns-in-None-clause-happens
returns-in-None-clause-happens g c =
    let s = own_of c.args.parts.now.held in
    subst (λ (e : Effect). OnOk c.start_first.result
    (Comes c.args.parts.now.asker.state e c.args.now.at.0 c.args.now.word
    (seen c.start_first.new.parts)))
    (sym (idle_starts (clocked c.args.now.at.0 s) c.args.now.at.0 s.running (to_fetch s.observations)
    (ap (option_map (shown_operation {A = g.row.A.Denot})) c.requires.none)
    (sym c.to_fetch.ensures ∙ c.in-None.is)))
    c.start_first.ensures.happens

pub returns-in-None-clause-did : goal.returns-in-None-clause-did
returns-in-None-clause-did g c =
    let s = own_of c.args.parts.now.held in
    subst (λ (e : Effect). IfOk c.start_first.result (λ did. did ≡ asks e.deed))
    (sym (idle_starts (clocked c.args.now.at.0 s) c.args.now.at.0 s.running (to_fetch s.observations)
    (ap (option_map (shown_operation {A = g.row.A.Denot})) c.requires.none)
    (sym c.to_fetch.ensures ∙ c.in-None.is)))
    c.start_first.ensures.did

pub returns-in-Some-clause-quiet : goal.returns-in-Some-clause-quiet
returns-in-Some-clause-quiet g c h =
    let s = own_of c.args.parts.now.held in
    let none : true ≡ false =
    sym (ap (λ (e : Effect). asks e.deed) (idle_fetches (clocked c.args.now.at.0 s) c.args.now.at.0 s.running (to_fetch s.observations) c.in-Some.number
    (ap (option_map (shown_operation {A = g.row.A.Denot})) c.requires.none)
    (sym c.to_fetch.ensures ∙ c.in-Some.is))) ∙ h in
    absurd (cc none)

pub returns-in-None-clause-quiet : goal.returns-in-None-clause-quiet
returns-in-None-clause-quiet g c =
    let s = own_of c.args.parts.now.held in
    subst (λ (e : Effect). asks e.deed ≡ false → IsOk c.start_first.result)
    (sym (idle_starts (clocked c.args.now.at.0 s) c.args.now.at.0 s.running (to_fetch s.observations)
    (ap (option_map (shown_operation {A = g.row.A.Denot})) c.requires.none)
    (sym c.to_fetch.ensures ∙ c.in-None.is)))
    c.start_first.ensures.quiet
