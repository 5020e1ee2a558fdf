use Rattle.std.proofs.Common.{true, ap, sym, ◌∙◌, arith, option_map}
use Rattle.std.proofs.lemmas.Option.{slice_get_within}
use Rattle.std.specs.List.{slice_get}
use Rattle.coap_types.specs.declared.endpoint.Endpoint.{Endpoint}
use Rattle.coap_observe.specs.Notices.{but_noted, told}
use Rattle.coap_exchange.specs.Machine.WhatIsDue.{takes_con}
use Rattle.coap_server.specs.Notifying.{marked}
use Rattle.coap_server.proofs.Calls.PassedOver.{stops, goes_on, all_passed, all_behind, found_behind, marked_most}
use Rattle.coap_server.proofs.Calls.PassedOver.{nobody, none_taken, whole_of}
use Rattle.coap_server.proofs.server.notification.first_ready.Goals as goal

pub returns-then-branch-clause-found : goal.returns-then-branch-clause-found
returns-then-branch-clause-found g c =
    let os = marked c.args.observers.now.list in
    let x = told c.in-Some.notice true in
    let there = c.in-Some.ensures.place in
    let w = whole_of (slice_get os c.observers.passed) x there in (
      c.observers.passed,
      there ∙ ap (option_map but_noted) (w.is ∙ sym (found_behind c.observers.passed os w.observer w.is)),
      stops _ _ _ c.args.at.0 c.observers.passed os x there c.observers.invariant.asked _
          c.in_ok-ready.ensures.step c.if-branch.true,
    )

pub overflow_add-passed : goal.overflow_add-passed
overflow_add-passed g c =
    let os = marked c.args.observers.now.list in
    let w = whole_of (slice_get os c.observers.passed) (told c.in-Some.notice true) c.in-Some.ensures.place in
    let within = slice_get_within os c.observers.passed w.observer w.is in
    let most = marked_most c.args.observers.now.list in
    let few = c.due_after.ensures.registrations.few in
    grind (arith, within, most, few)

pub observers-smaller : goal.observers-smaller
observers-smaller g c =
    let os = marked c.args.observers.now.list in
    let w = whole_of (slice_get os c.observers.passed) (told c.in-Some.notice true) c.in-Some.ensures.place in
    let within = slice_get_within os c.observers.passed w.observer w.is in
    omega (arith, within)

pub observers-preserved : goal.observers-preserved
observers-preserved g c =
    let os = marked c.args.observers.now.list in
    let x = told c.in-Some.notice true in
    let there = c.in-Some.ensures.place in
    let w = whole_of (slice_get os c.observers.passed) x there in
    let within = slice_get_within os c.observers.passed w.observer w.is in
    record {
      asked = goes_on _ _ _ c.args.at.0 c.observers.passed os x there c.observers.invariant.asked _
          c.in_ok-ready.ensures.step c.if-branch.false;
      same = λ there. c.in_ok-ready.ensures.same there ∙ c.observers.invariant.same there;
      before = c.in_ok-ready.ensures.before ∙ c.observers.invariant.before;
      room = λ had. c.in_ok-ready.ensures.room (c.observers.invariant.room had);
      within = omega (arith, within);
    }

pub returns-clause-found : goal.returns-clause-found
returns-clause-found g c =
    let os = marked c.args.observers.now.list in
    let none = nobody (slice_get os c.observers.passed) c.in_default.ensures.place in (
      c.observers.passed,
      sym (ap (option_map but_noted) (all_behind c.observers.passed os none)),
      all_passed _ _ c.args.at.0 c.observers.passed os none c.observers.invariant.asked,
    )

-- where nobody can be notified, the first of them can't

pub returns-in_err-ready-clause-quiet : goal.returns-in_err-ready-clause-quiet
returns-in_err-ready-clause-quiet g c none =
    let x = told c.in-Some.notice true in
    let shut = none_taken (λ (to : Endpoint). takes_con c.args.exchanges.now.state c.args.at.0 to) c.observers.passed
    (marked c.args.observers.now.list) x c.in-Some.ensures.place none in
    let ok = c.in_err-ready.ensures.quiet (c.observers.invariant.same x.to ∙ shut) in
    absurd (cc ok)

pub returns-then-branch-clause-none : goal.returns-then-branch-clause-none
returns-then-branch-clause-none g c none =
    let x = told c.in-Some.notice true in
    let shut = none_taken (λ (to : Endpoint). takes_con c.args.exchanges.now.state c.args.at.0 to) c.observers.passed
    (marked c.args.observers.now.list) x c.in-Some.ensures.place none in
    absurd (cc (c.if-branch.true, c.in_ok-ready.ensures.answer, c.observers.invariant.same x.to, shut))
