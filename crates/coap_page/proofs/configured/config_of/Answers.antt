use Rattle.std.proofs.Common.{◌∙◌, ap, inl, Err}
use Rattle.coap_page.proofs.FromEvents.{bad_plain}
use Rattle.coap_page.proofs.configured.config_of.Goals as goal

pub returns-in_err-paths-clause-none : goal.returns-in_err-paths-clause-none
returns-in_err-paths-clause-none g c = λ is.
    let bad = bad_plain c.from_residual.result c.in_err-paths.field-0.0 c.from_residual.ensures.1 is in
    inl (bad.0, c.paths_of.ensures.no_path bad.0 (c.in_err-paths.was ∙ ap Err bad.1))
