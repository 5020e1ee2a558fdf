use Rattle.std.proofs.Common.{subst}
use Rattle.coap_promise.specs.Agrees.{Agrees}
use Rattle.coap_promise.specs.Bounds.{AreBounded}
use Rattle.coap_many.proofs.Pointed.{has_point, at_most_one}
use Rattle.coap_many.proofs.FailedAnswers.{failed, never}
use Rattle.coap_many.proofs.Goes.{goes_on}
use Rattle.coap_many.specs.Clients.{world_of}
use Rattle.coap_many.specs.Entries.{client_of, entries_of}
use Rattle.coap_many.specs.Place.{place}
use Rattle.coap_many.proofs.Fresh.{are_fresh}
use Rattle.coap_many.proofs.Lost.{refused_are_lost}
use Rattle.coap_many.proofs.OneClock.{by_one_clock}
use Rattle.coap_many.proofs.Owned.{all_owned}
use Rattle.coap_many.proofs.Promises.{promises}
use Rattle.coap_many.proofs.Seen.{is_member}
use Rattle.coap_many.proofs.Clocked.{all_can_come, views_are_runs}
use Rattle.coap_many.proofs.Views.{views_are_records}
use Rattle.coap_many.proofs.laws.agreement_of_many.Goals as goal

pub returns-clause-each : goal.returns-clause-each
returns-clause-each c = λ clocks config events turns run legal k client.
    let v = views_are_runs clocks config events turns run legal k client in
    subst (Agrees (world_of config k)) v.seen.entries
    (c.agreement.ensures.agrees _ (world_of config k) _ _ v.seen.made v.legal)

pub returns-clause-bounded : goal.returns-clause-bounded
returns-clause-bounded c = λ clocks config events turns run legal k client.
    let v = views_are_runs clocks config events turns run legal k client in
    subst (AreBounded (world_of config k)) v.seen.entries
    (c.agreement.ensures.bounded _ (world_of config k) _ _ v.seen.made v.legal)

pub returns-clause-points : goal.returns-clause-points
returns-clause-points c = λ clocks config events turns run legal k client number report definite.
    let v = views_are_runs clocks config events turns run legal k client in
    has_point config k (entries_of turns) (promises (subst (Agrees (world_of config k)) v.seen.entries
    (c.agreement.ensures.agrees _ (world_of config k) _ _ v.seen.made v.legal))) number report definite

pub returns-clause-once : goal.returns-clause-once
returns-clause-once c = λ clocks config events turns run legal k client number.
    let v = views_are_runs clocks config events turns run legal k client in
    at_most_one config k (entries_of turns) (promises (subst (Agrees (world_of config k)) v.seen.entries
    (c.agreement.ensures.agrees _ (world_of config k) _ _ v.seen.made v.legal))) number

pub returns-clause-owned : goal.returns-clause-owned
returns-clause-owned c = λ clocks config events turns run legal.
    all_owned config legal.range (entries_of turns)
    (λ k client. c.client_follows_law.ensures.tokens config.server k.sizes k.setup (client_of k.at (entries_of turns))
    (run.clients k client))
    (λ k client. let v = views_are_runs clocks config events turns run legal k client in
    (subst (Agrees (world_of config k)) v.seen.entries
    (c.agreement.ensures.agrees _ (world_of config k) _ _ v.seen.made v.legal)).each_belongs)

pub returns-clause-no_fault : goal.returns-clause-no_fault
returns-clause-no_fault c = λ config events turns run range can.
    goes_on config events turns run range can (λ past before could k client.
    let v = views_are_records config _ past before range could k client in
    c.agreement.ensures.no_fault (world_of config k) _ _ v.made)

pub returns-clause-failed : goal.returns-clause-failed
returns-clause-failed c = λ clocks config events turns run legal k client number code.
    let v = views_are_runs clocks config events turns run legal k client in
    failed config k (entries_of turns) (promises (subst (Agrees (world_of config k)) v.seen.entries
    (c.agreement.ensures.agrees _ (world_of config k) _ _ v.seen.made v.legal))) number code

pub returns-clause-never_failed : goal.returns-clause-never_failed
returns-clause-never_failed c = λ clocks config events turns run legal k client number code.
    let v = views_are_runs clocks config events turns run legal k client in
    never config k (entries_of turns) (promises (subst (Agrees (world_of config k)) v.seen.entries
    (c.agreement.ensures.agrees _ (world_of config k) _ _ v.seen.made v.legal))) number code

pub returns-clause-fresh : goal.returns-clause-fresh
returns-clause-fresh c = λ clocks config events turns run legal k client.
    let v = views_are_runs clocks config events turns run legal k client in
    are_fresh clocks config legal.range k client turns run.made (all_can_come config clocks turns legal.events)
    (c.agreement.ensures.fresh _ (world_of config k) _ _ v.seen.made v.legal)

pub returns-clause-lost : goal.returns-clause-lost
returns-clause-lost c = refused_are_lost

pub returns-clause-smooth : goal.returns-clause-smooth
returns-clause-smooth c = λ clocks config events turns run legal one k client goes.
    let v = views_are_runs clocks config events turns run legal k client in
    c.agreement.ensures.smooth (world_of config k) _ _ v.seen.made
    (by_one_clock (world_of config k) _ _ v.legal
    (λ n. one k.at (is_member k config.clients client) (place config k.at turns n))) goes.smooth goes.few_told
    goes.none_observed

pub returns-clause-eight : goal.returns-clause-eight
returns-clause-eight c = λ clocks config events turns run legal one none k client goes.
    let v = views_are_runs clocks config events turns run legal k client in
    c.agreement.ensures.eight (world_of config k) _ _ v.seen.made
    (by_one_clock (world_of config k) _ _ v.legal
    (λ n. one k.at (is_member k config.clients client) (place config k.at turns n))) none goes.smooth goes.few_told
    goes.none_observed

pub returns-clause-current : goal.returns-clause-current
returns-clause-current c = λ clocks config events turns run legal one k client goes.
    let v = views_are_runs clocks config events turns run legal k client in
    c.agreement.ensures.current (world_of config k) _ _ v.seen.made
    (by_one_clock (world_of config k) _ _ v.legal
    (λ n. one k.at (is_member k config.clients client) (place config k.at turns n))) goes
