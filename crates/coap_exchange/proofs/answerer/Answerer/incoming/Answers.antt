use Rattle.std.proofs.Common.{◌≡◌, not, false, is_some, refl, rules, ap, sym, subst, ◌∙◌, arith}
use Rattle.coap_layer.specs.Machine.Ups.{answer_as}
use Rattle.coap_exchange.proofs.Calls.ServerCalls.{has_room, keeps, may_take, received}
use Rattle.std.proofs.lemmas.Bool.{and_parts}
use Rattle.coap_exchange.specs.Machine.AnswererShown.{sending_as}
use Rattle.coap_exchange.specs.Machine.Listed.{listed}
use Rattle.coap_exchange.specs.AnswererSteps.{reject_by, separate_after}
use Rattle.coap_exchange.specs.AskerArrivals.{id_in}
use Rattle.coap_layer.specs.Trace as T
use Rattle.coap_exchange.proofs.Calls.RoomIsKept.{MayConfirm, may_still, none_rejected, still_confirms}
use Rattle.coap_exchange.proofs.Calls.ServerCalls.{short_token}
use Rattle.coap_exchange.proofs.answerer.Answerer.incoming.Goals as goal

pub of_arrival-found-requires : goal.of_arrival-found-requires
of_arrival-found-requires g c m h =
    short_token c.self.inside.layer.state c.receive.new.self.state c.args.now.0 c.args.from c.args.bytes.now
    (answer_as c.in_ok-up.up) m c.in_ok-up.ensures.step h

pub invariant_of-self-2 : goal.invariant_of-self-2
invariant_of-self-2 g c =
    let up = answer_as c.in_ok-up.up in (
      λ h a is. may_take c.self.inside.layer c.receive.new.self c.reject-rejected.new.layer c.args.now.0 c.args.from
          c.args.bytes.now up a c.in_ok-up.ensures.step c.in_ok-up.ensures.may_reply c.reject-rejected.ensures.kept
          (sym (ap (λ x. x.pending) c.replace-self-inside.ensures.after ∙ c.of_arrival-found.ensures.pending) ∙ is),
      λ may.
          let p = and_parts c.self.inside.room (not c.reject-rejected.result)
          (sym c.keeps_room-self-inside.ensures ∙ may) in
          let was = c.self.invariant.1 p.0 in
          let settled = c.settle_down.ensures in
          let after = c.after_arrival.ensures in (
            has_room c.receive.new.self c.reject-rejected.new.layer up c.reject-rejected.result
                c.reject-rejected.ensures.rejects c.reject-rejected.ensures.kept (c.in_ok-up.ensures.kept was.0) p.1,
            omega (arith, was.1, settled.len, settled.capacity, after.len, after.capacity),
          ),
    )

pub returns-clause-step : goal.returns-clause-step
returns-clause-step g c =
    let i = c.self.inside in
    let found = c.replace-self-inside.new.dest in
    let is = c.replace-self-inside.ensures.after in
    let up = answer_as c.in_ok-up.up in (
      up,
      received i.layer.state c.receive.new.self.state c.reject-rejected.new.layer.state i.findings.pending
          found.pending i.deferred (listed i.separate.items)
          (listed c.after_arrival.new.separate.items) i.findings.ended found.ended
          (sending_as i.findings.unmatched) (sending_as found.unmatched) c.args.self.now.state
          c.args.now.0 c.args.from c.args.bytes.now up c.handed_up.result
          (ap (λ s. s.state) c.self.view_is) c.in_ok-up.ensures.step c.reject-rejected.ensures.steps
          (c.handed_up.ensures c.args.from (c.copied-asked.ensures ∙ c.of_arrival-found.ensures.pending))
          (ap (λ x. x.pending) is ∙ c.of_arrival-found.ensures.pending)
          (c.after_arrival.ensures.now ∙ ap (separate_after c.args.from up) c.settle_down.ensures.now) (search rules)
          (ap (λ x. sending_as x.unmatched) is ∙ c.of_arrival-found.ensures.unmatched),
    )

pub returns-clause-kept : goal.returns-clause-kept
returns-clause-kept g c same at there may =
    let i = c.self.inside in
    let l = i.layer.state in
    let mid = c.receive.new.self.state in
    let h = c.reject-rejected.new.layer.state in
    let up = answer_as c.in_ok-up.up in
    let was : c.args.self.now.state.layer ≡ l = sym (ap (λ s. s.state.layer) c.self.view_is) in
    let step = c.in_ok-up.ensures.step in
    let none = none_rejected l mid h c.args.now.0 c.args.from c.args.bytes.now up (id_in up)
    (reject_by up) step c.reject-rejected.ensures.steps (same ∙ ap (λ s. s.queue) was) in
    let no : c.reject-rejected.result ≡ false = c.reject-rejected.ensures.rejects ∙ ap is_some none in
    may_still c.args.self.now _ l h at there was refl
    (λ room. c.keeps_room-self-inside.ensures ∙ keeps c.self.inside.room c.reject-rejected.result
    (ap (λ s. s.room) c.self.view_is ∙ room) no)
    (λ m. subst (λ s. MayConfirm s at there) (sym (ap (λ x. x.state) (c.reject-rejected.ensures.kept none)))
    (still_confirms l mid c.args.now.0 (T.Receive c.args.from c.args.bytes.now) up step
    (record { begun = λ n. refl; given = λ n. refl; later = omega arith }) at there m)) may
