use Rattle.std.proofs.Common.{rules, not, ap, ◌∙◌}
use Rattle.arrayvec.proofs.ArrayVecLemmas.{filter-from_retain}
use Rattle.coap_exchange.specs.Tokens.{same_token, kept_without}
use Rattle.coap_exchange.proofs.kept_tokens.KeptTokens.release.Goals as goal

pub returns-clause-left : goal.returns-clause-left
returns-clause-left c =
    filter-from_retain _ (λ other. not (same_token c.args.token.now other)) _
    (λ x b f' y k. search rules) _ _ c.retain.ensures.filtered
    ∙ ap (kept_without c.args.token.now) c.self.view_is
