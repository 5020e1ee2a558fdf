use Rattle.std.proofs.Common.{ap, ◌∙◌}
use Rattle.coap_client.specs.Effects.{Rests, of}
use Rattle.coap_client.specs.Steps.{reporting}
use Rattle.coap_client.specs.Object.Shown.{shown_report}
use Rattle.coap_client.proofs.client.end.end_observation.Goals as goal

pub returns-clause-own : goal.returns-clause-own
returns-clause-own g c =
    c.give.ensures ∙ ap (λ s. reporting (record
    { own = s; report = of c.args.number (shown_report c.args.report); deed = Rests })) c.leave.ensures.own
