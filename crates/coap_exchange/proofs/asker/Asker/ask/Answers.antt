use Rattle.std.proofs.Common.{rules, ap, refl, []}
use Rattle.coap_layer.specs.Trace as below
use Rattle.coap_exchange.specs.declared.matching.Opening.TheVariants as openings
use Rattle.coap_exchange.proofs.Calls.AskingCalls.{refused, told_spent}
use Rattle.coap_exchange.proofs.asker.Asker.ask.Goals as goal

pub returns-in-Running-clause-step : goal.returns-in-Running-clause-step
returns-in-Running-clause-step g c e = (
  below.Nothing,
  refused c.self.inside.layer.state c.self.inside.server c.self.inside.word c.self.inside.held c.args.self.now.state
      (ap (λ s. s.state) c.self.view_is) c.pass.new.self.state c.args.now.0 c.args.word c.args.ask.now below.Nothing
      openings.Running _ (search rules)
      c.pass.ensures.step refl refl,
)

pub returns-in-Spent-clause-step : goal.returns-in-Spent-clause-step
returns-in-Spent-clause-step g c e = (
  below.Is c.is_free.result,
  refused c.self.inside.layer.state c.self.inside.server c.self.inside.word c.self.inside.held c.args.self.now.state
      (ap (λ s. s.state) c.self.view_is) c.is_free.new.self.state c.args.now.0 c.args.word c.args.ask.now
      (below.Is c.is_free.result) openings.Spent _ (search rules) c.is_free.ensures.step refl
      (told_spent c.is_free.result c.spent_refusal.result [] c.spent_refusal.ensures),
)
