use Rattle.std.proofs.Common.{◌≡◌, rules, ap, ◌∙◌, Err}
use Rattle.coap_layer.specs.Trace as below
use Rattle.coap_layer.specs.Machine.Ups as ups
use Rattle.coap_layer.specs.declared.up.SendRefusal.TheVariants as send
use Rattle.coap_exchange.specs.Machine.AskerShown.{refusal_as}
use Rattle.coap_exchange.proofs.Calls.AskingCalls.{sent_content, refused_content}
use Rattle.coap_exchange.proofs.asker.Asker.send.Goals as goal

pub returns-in-Ok-clause-step : goal.returns-in-Ok-clause-step
returns-in-Ok-clause-step g c e = (
  below.Sent c.in-Ok.id.0,
  sent_content c.self.inside.layer.state c.self.inside.server c.self.inside.word c.self.inside.held
      c.args.self.now.state (ap (λ s. s.state) c.self.view_is) c.confirm.new.self.state c.args.now.0 c.args.word
      c.args.ask.now c.in-Ok.id
      c.token_for-token.result _ c.open.new.self (search rules) (search rules) (search rules)
      (c.in-Ok.ensures.step (λ z. cc z)) (search rules) (search rules) (search rules),
)

pub returns-in-Err-clause-step : goal.returns-in-Err-clause-step
returns-in-Err-clause-step g c e =
    let ne : c.in-Err.refusal ≡ send.Memory → ⊥ =
    λ z. e (ap (λ a. Err a) (c.send_refusal.ensures ∙ ap refusal_as z)) in (
      ups.sent_as (Err c.in-Err.refusal),
      refused_content c.self.inside.layer.state c.self.inside.server c.self.inside.word c.self.inside.held
          c.args.self.now.state (ap (λ s. s.state) c.self.view_is) c.confirm.new.self.state c.args.now.0 c.args.word
          c.args.ask.now
          c.token_for-token.result _ c.in-Err.refusal c.send_refusal.result (search rules) (search rules) (search rules)
          (c.in-Err.ensures.step (λ z. ne (cc z))) c.send_refusal.ensures (λ z. e (ap (λ a. Err a) z)),
    )
