use Rattle.std.proofs.Common.{rules, not}
use Rattle.std.specs.Prelude.{◌==◌}
use Rattle.std.proofs.lemmas.Fn.{filter_same}
use Rattle.coap_client.proofs.Calls.TickSteps.{reports_are}
use Rattle.coap_client.proofs.client.end.withdraw.Goals as goal

pub returns : goal.returns
returns g c = reports_are {A = g.row.A.Denot} c.args.number _ _
    (filter_same _ (λ r. not (r.0.0 == c.args.number)) _ (λ x b f' k. search rules) _ _ c.retain.ensures.filtered)
