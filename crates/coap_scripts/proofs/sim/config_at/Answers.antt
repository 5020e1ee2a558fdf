use Rattle.std.proofs.Common.{◌∙◌, Err, ap, inl, inr}
use Rattle.coap_scripts.proofs.sim.config_at.Goals as goal

pub returns-in-Err-Full-clause-words : goal.returns-in-Err-Full-clause-words
returns-in-Err-Full-clause-words g c = λ words. inr (c.config_with.ensures.full
    (c.in-Err-Full.is ∙ ap Err c.in-Err-Full.field-0-is))

pub returns-else-at-clause-words : goal.returns-else-at-clause-words
returns-else-at-clause-words g c = λ words. inl (λ two. cc (c.at.ensures.when.1 two, c.if-at.false))
