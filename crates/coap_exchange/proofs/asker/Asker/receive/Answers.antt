use Rattle.std.proofs.Common.{◌≤◌, IfSome, length, rules, ap, sym, subst, ◌∙◌}
use Rattle.coap_types.specs.declared.token.TheConstants.{MAX_TOKEN_LEN as max_token_len}
use Rattle.coap_layer.specs.Machine.Shown.{MayReply}
use Rattle.coap_layer.specs.Machine.Ups.{answer_as}
use Rattle.coap_exchange.specs.Machine.AskerShown.{own_with}
use Rattle.coap_exchange.specs.AskerArrivals.{told}
use Rattle.coap_exchange.specs.AskerFollows.{message_told}
use Rattle.coap_exchange.proofs.Telling.FewTokenBytes.{told_few}
use Rattle.coap_exchange.proofs.Calls.ClientCalls.{received_old, replied}
use Rattle.coap_exchange.proofs.asker.Asker.receive.Goals as goal

pub act-requires : goal.act-requires
act-requires g c h =
    let up = answer_as c.in_ok-up.up in
    let v = c.verdict-verdict.ensures c.self.inside.layer.state.clock c.self.inside.word in
    let own = own_with c.self.inside.layer.state.clock c.self.inside.server c.self.inside.word c.self.inside.held in
    let m = replied own c.args.from up (search (rules, h, v, c.id_in-id.ensures)) in
    subst (MayReply c.receive.new.self c.args.from) (m.2 ∙ sym c.id_in-id.ensures)
    (c.in_ok-up.ensures.may_reply m.0 m.1)

pub returns-clause-step : goal.returns-clause-step
returns-clause-step g c =
    let up = answer_as c.in_ok-up.up in
    let l = c.self.inside.layer.state in (
      up,
      c.act.ensures.steps.0,
      received_old l c.self.inside.server c.self.inside.word c.self.inside.held c.args.self.now.state
          (ap (λ s. s.state) c.self.view_is) c.receive.new.self.state c.act.new.layer.state c.args.now.0 c.args.from
          c.args.bytes.now up
          c.act.ensures.steps.0 c.verdict-verdict.result c.id_in-id.result.0 c.clock-at.result.0
          c.after_arrival-self-inside.result c.told.result c.in_ok-up.ensures.step
          (c.verdict-verdict.ensures l.clock c.self.inside.word)
          c.id_in-id.ensures c.clock-at.ensures c.act.ensures.steps.1 (search rules) c.told.ensures,
    )

pub returns-clause-few : goal.returns-clause-few
returns-clause-few g c =
    let i = c.self.inside in
    let up = answer_as c.in_ok-up.up in
    let own = own_with i.layer.state.clock i.server i.word i.held in
    let told_is = c.told.ensures ∙ ap (λ v. told v up) (c.verdict-verdict.ensures i.layer.state.clock i.word) in
    subst (λ e. IfSome (message_told e) (λ m. length m.token ≤ max_token_len)) (sym told_is)
    (told_few own i.layer.state c.receive.new.self.state c.args.now.0 c.args.from c.args.bytes.now up
    c.in_ok-up.ensures.step)
