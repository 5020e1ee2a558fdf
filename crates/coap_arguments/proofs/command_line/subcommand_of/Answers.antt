use Rattle.std.proofs.Common.{◌∙◌, ap, ap₂, sym, arith}
use Rattle.std.proofs.lemmas.List.{map_more}
use Rattle.clap.specs.Words.{with_rule}
use Rattle.coap_arguments.specs.CommandLine.{leaf}
use Rattle.coap_arguments.specs.Tables.{begins_required, rule_in}
use Rattle.coap_arguments.proofs.command_line.subcommand_of.Goals as goal

pub loop-argument-preserved : goal.loop-argument-preserved
loop-argument-preserved c =
    let subcommand = c.args.subcommand.now in
    let i = c.loop-argument.argument-index in (
      c.in_ok-command.ensures.app ∙ ap₂ with_rule c.loop-argument.invariant.0 c.argument_of.ensures.rule
          ∙ ap (leaf subcommand.name.now (begins_required subcommand.arguments.now))
          (sym (map_more rule_in subcommand.arguments.now i _ (omega arith))),
      c.in_ok-command.ensures.own,
    )
