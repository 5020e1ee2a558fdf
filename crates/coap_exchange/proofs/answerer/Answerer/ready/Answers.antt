use Rattle.std.proofs.Common.{◌≡◌, ◌≤◌, ◌∙◌, max, true, rules, refl, ap, arith}
use Rattle.coap_layer.specs.Trace as T
use Rattle.coap_exchange.specs.Machine.WhatIsDue.{takes_con}
use Rattle.coap_exchange.proofs.Calls.RoomIsKept.{still_may}
use Rattle.coap_exchange.proofs.Calls.ServerTicks.{room_free, room_idle}
use Rattle.coap_exchange.proofs.Calls.WhatIsDue.{asked_answer, asked_same, takes}
use Rattle.coap_exchange.proofs.answerer.Answerer.ready.Goals.{then-self, else-self}
use Rattle.coap_exchange.proofs.answerer.Answerer.ready.Goals as goal

pub returns-clause-may : goal.returns-clause-may
returns-clause-may g c may =
    let l = c.if-would_confirm.self-inside.layer.state in
    let h = c.room.new.self.state in
    let room : c.if-self.self ≡ true = elim c.if-self.branch
    [ then-self w ↦ search rules | else-self w ↦ search rules ] in
    record {
      room = room;
      idle = room_idle l h c.args.now.0 c.args.to c.in_ok-may.may c.in_ok-may.ensures.step may;
      free = room_free l h c.args.now.0 c.args.to c.in_ok-may.may c.in_ok-may.ensures.step may;
    }

pub returns-clause-kept : goal.returns-clause-kept
returns-clause-kept g c at there may =
    let l = c.if-would_confirm.self-inside.layer.state in
    let from : c.args.self.now.state.layer ≡ l = search (rules, c.self.view_is) in
    let later : l.clock ≤ max l.clock c.args.now.0 = omega (arith) in
    let was : c.args.self.now.room ≡ c.if-would_confirm.self-inside.room = search (rules, c.self.view_is) in
    let room : c.args.self.now.room ≡ true → c.if-self.self
    ≡ true = λ h. elim c.if-self.branch [
      | then-self w ↦ search rules
      | else-self w ↦ absurd
          (cc (h, was, w.if-self.false))
    ] in
    still_may l c.room.new.self.state c.args.now.0 (T.Room c.args.to) (T.Is c.in_ok-may.may) c.in_ok-may.ensures.step
    (record { begun = λ at. refl; given = λ at. refl; later = later }) c.args.self.now _ at there from refl room may

pub returns-clause-answer : goal.returns-clause-answer
returns-clause-answer g c =
    let l = c.if-would_confirm.self-inside.layer.state in
    let was : l ≡ c.self.inside.layer.state = search rules in
    asked_answer l c.room.new.self.state c.args.now.0 c.args.to c.in_ok-may.may c.in_ok-may.ensures.step
    ∙ (ap (λ s. takes s c.args.now.0 c.args.to) was ∙ ap (λ s. takes_con s.state c.args.now.0 c.args.to) c.self.view_is)

pub returns-clause-same : goal.returns-clause-same
returns-clause-same g c there =
    let l = c.if-would_confirm.self-inside.layer.state in
    let was : l ≡ c.self.inside.layer.state = search rules in
    asked_same l c.room.new.self.state c.args.now.0 c.args.to c.in_ok-may.may c.in_ok-may.ensures.step there
    ∙ (ap (λ s. takes s c.args.now.0 there) was ∙ ap (λ s. takes_con s.state c.args.now.0 there) c.self.view_is)
