use Rattle.std.proofs.Common.{Some, map, refl, ap, sym, ◌∙◌}
use Rattle.coap_server.specs.Object.Shown.{waiting_as, applied_list}
use Rattle.coap_server.proofs.Calls.TurnSteps.{none_waits, responded}
use Rattle.coap_server.proofs.server.separate_response.respond_ready.Goals as goal

pub returns-in_default-clause-turned : goal.returns-in_default-clause-turned
returns-in_default-clause-turned g c =
    let none = rw c.deref.ensures.value at c.in_default.ensures.none c.args.parts.now.szx in
    none_waits _ _ c.args.asked.now c.args.word none refl

pub returns-clause-turned : goal.returns-clause-turned
returns-clause-turned g c =
    let szx = c.args.parts.now.szx in
    let asks = rw c.deref.ensures.value at c.in-Some.ensures.question szx c.index.result.now in
    let left = rw c.deref.ensures.value at c.in-Some.ensures.left szx in
    responded _ _ c.args.asked.now c.args.word (waiting_as szx c.index.result.now).question
    c.in_ok-served.served.response (applied_list c.in_ok-served.served.applied) _ c.serve_waiting.new.observers.list
    (map (waiting_as szx) c.remove-done.new.self.items) c.respond-id.result.0
    (asks ∙ ap (λ w. Some (waiting_as szx w).question) (sym c.index.ensures)) c.in_ok-served.ensures.served
    c.respond-id.ensures.step (ap (map (waiting_as szx)) c.remove-done.ensures.items ∙ left) refl
