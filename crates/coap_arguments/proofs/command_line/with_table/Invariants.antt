use Rattle.std.proofs.Common.{◌≡◌, take}
use Rattle.clap.specs.Words.{app_of}
use Rattle.coap_arguments.specs.Tables.{with_subcommands}
use Rattle.coap_arguments.proofs.command_line.with_table.Given as goal

-- the program has the subcommands so far
abbrev pub invariant-loop-subcommand : goal.invariant-loop-subcommand
invariant-loop-subcommand l =
    app_of l.program ≡ with_subcommands (app_of l.fn.program) (take l.subcommand-index l.subcommands)
