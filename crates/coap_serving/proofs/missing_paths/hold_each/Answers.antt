use Rattle.std.proofs.Common.{arith, refl, subst, List, ℕ}
use Rattle.std.proofs.lemmas.List.{take_all}
use Rattle.coap_arguments.specs.declared.orders.Hold.{Hold}
use Rattle.coap_resource.specs.Entries.{content_of}
use Rattle.coap_server.specs.Object.Shown.{state_of}
use Rattle.coap_serving.specs.Kept.{HoldsEach, HoldsMissing, RefusesMissing}
use Rattle.coap_serving.proofs.KeptCalls.{one_among, one_each}
use Rattle.coap_common.proofs.Facts.{none_is, some_is}
use Rattle.coap_serving.proofs.missing_paths.hold_each.Goals as goal

pub loop-held-init : goal.loop-held-init
loop-held-init g c = refl

pub loop-held-preserved : goal.loop-held-preserved
loop-held-preserved g c =
    let at = c.args.at.0 in
    let old = state_of content_of c.args.journaled.now.end in
    let between = state_of content_of c.loop-held.journaled.end in
    let new = state_of content_of c.hold_missing.new.journaled.end in
    one_each at c.args.holds.now c.loop-held.held-index c.held-item.result c.held-item.is c.loop-held-test.true old
    between new c.loop-held.invariant
    (subst (λ (body : List ℕ). HoldsMissing at c.held-item.result.path body between new) c.as_slice.ensures.value
    (none_is _ _ c.in_ok-refusal.ensures.holds c.in_default.is))

pub returns-clause-holds : goal.returns-clause-holds
returns-clause-holds g c =
    subst (λ (hs : List Hold). HoldsEach c.args.at.0 hs (state_of content_of c.args.journaled.now.end)
    (state_of content_of c.loop-held.journaled.end))
    (take_all c.loop-held.held-index c.args.holds.now (omega arith)) c.loop-held.invariant

pub returns-in-Some-clause-refused : goal.returns-in-Some-clause-refused
returns-in-Some-clause-refused g c =
    let at = c.args.at.0 in
    let old = state_of content_of c.args.journaled.now.end in
    let between = state_of content_of c.loop-held.journaled.end in
    let new = state_of content_of c.hold_missing.new.journaled.end in
    one_among at c.args.holds.now c.loop-held.held-index c.held-item.result c.held-item.is c.loop-held-test.true
    c.in-Some.refusal old between new c.loop-held.invariant
    (subst (λ (body : List ℕ). RefusesMissing at c.held-item.result.path body c.in-Some.refusal between new)
    c.as_slice.ensures.value
    (some_is _ _ c.in-Some.refusal c.in_ok-refusal.ensures.refused c.in-Some.is))
