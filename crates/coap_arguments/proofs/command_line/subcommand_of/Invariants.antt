use Rattle.std.proofs.Common.{◌≡◌, map, take, false}
use Rattle.clap.specs.Words.{app_of}
use Rattle.clap.specs.declared.builder.command.Command.TheViews.{out-Command}
use Rattle.coap_arguments.specs.CommandLine.{leaf}
use Rattle.coap_arguments.specs.Tables.{begins_required, rule_in}
use Rattle.coap_arguments.proofs.command_line.subcommand_of.Given as goal

-- the command has the arguments so far
abbrev pub invariant-loop-argument : goal.invariant-loop-argument
invariant-loop-argument l =
    (app_of l.command ≡ leaf l.subcommand.name.now (begins_required l.arguments)
    (map rule_in (take l.argument-index l.arguments)))
    × ((out-Command l.command).has_globals ≡ false)
