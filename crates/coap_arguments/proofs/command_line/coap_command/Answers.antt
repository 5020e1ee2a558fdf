use Rattle.std.proofs.Common.{◌≡◌, ◌∙◌, ap, subst, IfOk}
use Rattle.clap.specs.Words.{App, app_of}
use Rattle.coap_arguments.specs.CommandLine.{asking_apps, more_asking_apps, other_apps, with_apps}
use Rattle.coap_arguments.proofs.command_line.coap_command.Goals as goal

-- one table behind the other
pub returns : goal.returns
returns c =
    let others = c.in_ok-program.ensures ∙ ap (λ (p : App). with_apps p other_apps) c.without_subcommands.ensures in
    let asking = c.in_ok-program-2.ensures ∙ ap (λ (p : App). with_apps p asking_apps) others in
    subst (λ (app : App). IfOk c.with_asking_more.result (λ p. app_of p ≡ app))
    (ap (λ (p : App). with_apps p more_asking_apps) asking)
    c.with_asking_more.ensures
