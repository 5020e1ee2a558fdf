use Rattle.std.proofs.Common.{◌≡◌, ◌∙◌, ap₂, refl, subst, IfOk}
use Rattle.clap.specs.Words.{app_of}
use Rattle.coap_arguments.specs.Tables.{with_subcommands}
use Rattle.coap_arguments.proofs.command_line.with_asking_more.Goals as goal

-- the table is what the definitions have
pub returns : goal.returns
returns c =
    subst (λ app. IfOk c.with_table.result (λ p. app_of p ≡ app))
    (ap₂ with_subcommands refl c.as_slice.ensures ∙ refl)
    c.with_table.ensures
