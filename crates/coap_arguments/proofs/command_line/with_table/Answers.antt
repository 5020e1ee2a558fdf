use Rattle.std.proofs.Common.{◌∙◌, ap₂, sym, refl, arith}
use Rattle.std.proofs.lemmas.List.Sums.{fold_more}
use Rattle.clap.specs.Words.{with_subcommand}
use Rattle.coap_arguments.proofs.command_line.with_table.Goals as goal

pub loop-subcommand-preserved : goal.loop-subcommand-preserved
loop-subcommand-preserved c =
    c.in_ok-program.ensures ∙ ap₂ with_subcommand c.loop-subcommand.invariant refl
    ∙ sym (fold_more _ _ c.args.subcommands.now c.loop-subcommand.subcommand-index _ (omega arith))
