use Rattle.std.proofs.Common.{map}
use Rattle.coap_scripts.specs.Settings.{setting_of}
use Rattle.coap_wires.specs.Words.{IsDrawnOrigin}
use Rattle.coap_serving.proofs.ServedCalls.{served_with}
use Rattle.coap_serving.proofs.serve_command.serve_six.Goals as goal

pub returns : goal.returns
returns g c =
    let origin = c.in_ok-origin.ensures in
    served_with (IsDrawnOrigin (g.R.Draws.draws c.args.rt.now) c.args.options.now.word) _ _ c.args.count
    c.args.options.now (map setting_of c.args.settings.now) c.in_ok-origin.origin c.serve_on.result
    (origin.origin, origin.drawn.0, origin.drawn.1) c.serve_on.ensures
