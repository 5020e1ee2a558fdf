use Rattle.std.proofs.Common.{◌∷◌, ◌++◌}
use Rattle.coap_replay_laws.proofs.AfterSilence.{goes_anew}
use Rattle.coap_replay_laws.proofs.laws.silence_law.Goals as goal

pub returns : goal.returns
returns c setup past later e law silent =
    let whole = e ∷ later ++ past in
    goes_anew setup past later e law (c.sending_law.ensures.alike setup whole law)
    (c.sending_law.ensures.kinds setup whole law) silent
