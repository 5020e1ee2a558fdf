use Rattle.std.proofs.Common.{◌≡◌, ◌∙◌, ap}
use Rattle.coap_codec.specs.Message.{Message}
use Rattle.coap_waits.specs.Freshness.{max_age}
use Rattle.coap_waits.proofs.silence.max_age_of.Goals as goal

pub returns-in-Ok-clause-said : goal.returns-in-Ok-clause-said
returns-in-Ok-clause-said c = λ m spells.
    let same : c.in-Ok.message ≡ m = cc (c.in-Ok.is, c.in-Ok.ensures.only m spells) in
    c.max_age_in.ensures ∙ ap (λ (n : Message). max_age n.options) same

pub returns-in-Err-clause-said : goal.returns-in-Err-clause-said
returns-in-Err-clause-said c = λ m spells. absurd (c.in-Err.ensures.none m spells)
