use Rattle.std.proofs.Common.{true, refl, ap, sym, ◌∙◌}
use Rattle.coap_observe.specs.Notices.{told, told_due}
use Rattle.coap_server.proofs.Calls.PassedOver.{nobody}
use Rattle.coap_server.proofs.Calls.TurnSteps.{none_notified, one_told}
use Rattle.coap_server.proofs.server.notification.notify_next.Goals as goal

pub returns-in_default-clause-turned : goal.returns-in_default-clause-turned
returns-in_default-clause-turned g c =
    let f = c.in_ok-notice.ensures.found in
    none_notified _ _ c.args.word f.0 (nobody _ (sym (ap told_due c.in_default.is) ∙ f.1)) f.2 refl

pub returns-clause-turned : goal.returns-clause-turned
returns-clause-turned g c =
    let f = c.in_ok-notice.ensures.found in
    let o = told c.in-Some.notice true in
    let store = g.S.Store.content c.args.parts.now.store in
    one_told _ _ c.args.word f.0 _ o c.send-id.result.0 c.goes_plain-plain.result _
    store c.note_sent.new.observers.list
    (sym (ap told_due c.in-Some.is) ∙ f.1) f.2 (c.send-id.ensures.step o refl refl)
    (rw c.deref.ensures.value at c.goes_plain-plain.ensures (store.holds o.path)
    (sym c.notification-response.ensures.there))
    c.notification-response.ensures.response refl
    (c.note_sent.ensures.left (store.holds o.path) o (sym c.notification-response.ensures.there) refl refl) refl
