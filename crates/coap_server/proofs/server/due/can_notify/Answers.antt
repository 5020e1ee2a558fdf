use Rattle.std.proofs.Common.{◌≡◌, ◌∙◌, true, false, ap, sym, arith, add-one}
use Rattle.std.proofs.lemmas.Option.{slice_get_within}
use Rattle.std.specs.List.{slice_get}
use Rattle.coap_observe.specs.Notices.{told}
use Rattle.coap_observe.specs.Observers.{Observer}
use Rattle.coap_exchange.specs.Machine.WhatIsDue.{takes_con}
use Rattle.coap_server.specs.Notifying.{marked}
use Rattle.coap_server.proofs.Calls.PassedOver.{marked_most, nobody, whole_of}
use Rattle.coap_server.proofs.Calls.TicksWhenDue.{any_there, any_next, any_past}
use Rattle.coap_server.proofs.server.due.can_notify.Goals as goal

pub overflow_add-passed : goal.overflow_add-passed
overflow_add-passed g c =
    let os = marked c.args.observers.now.list in
    let w = whole_of (slice_get os c.observers.passed) (told c.in-Some.notice true) c.in-Some.ensures.place in
    let within = slice_get_within os c.observers.passed w.observer w.is in
    let most = marked_most c.args.observers.now.list in
    let few = c.due_after.ensures.registrations.few in
    grind (arith, within, most, few)

pub observers-smaller : goal.observers-smaller
observers-smaller g c =
    let os = marked c.args.observers.now.list in
    let w = whole_of (slice_get os c.observers.passed) (told c.in-Some.notice true) c.in-Some.ensures.place in
    let within = slice_get_within os c.observers.passed w.observer w.is in
    omega (arith, within)

pub observers-preserved : goal.observers-preserved
observers-preserved g c =
    let os = marked c.args.observers.now.list in
    let x = c.args.exchanges.now.state in
    let w = whole_of (slice_get os c.observers.passed) (told c.in-Some.notice true) c.in-Some.ensures.place in
    let within = slice_get_within os c.observers.passed w.observer w.is in
    let no : takes_con x c.args.at.0 (told c.in-Some.notice true).to ≡ false =
    cc (c.would_notify.ensures, c.if-would_notify.false) in
    let shut : takes_con x c.args.at.0 w.observer.to ≡ false =
    sym (ap (λ (o : Observer). takes_con x c.args.at.0 o.to) w.told) ∙ no in
    record {
      left = rw add-one (any_next (λ (o : Observer). takes_con x c.args.at.0 o.to) os c.observers.passed
          w.observer w.is shut ∙ c.observers.invariant.left);
      within = omega (arith, within);
    }

pub returns-then-would_notify : goal.returns-then-would_notify
returns-then-would_notify g c =
    let os = marked c.args.observers.now.list in
    let x = c.args.exchanges.now.state in
    let w = whole_of (slice_get os c.observers.passed) (told c.in-Some.notice true) c.in-Some.ensures.place in
    let yes : takes_con x c.args.at.0 (told c.in-Some.notice true).to ≡ true =
    cc (c.would_notify.ensures, c.if-would_notify.true) in
    let ready : takes_con x c.args.at.0 w.observer.to ≡ true =
    sym (ap (λ (o : Observer). takes_con x c.args.at.0 o.to) w.told) ∙ yes in
    sym (any_there (λ (o : Observer). takes_con x c.args.at.0 o.to) os c.observers.passed w.observer w.is ready)
    ∙ c.observers.invariant.left

pub returns : goal.returns
returns g c =
    let os = marked c.args.observers.now.list in
    let x = c.args.exchanges.now.state in
    sym (any_past (λ (o : Observer). takes_con x c.args.at.0 o.to) os c.observers.passed
    (nobody (slice_get os c.observers.passed) c.in_default.ensures.place)) ∙ c.observers.invariant.left
