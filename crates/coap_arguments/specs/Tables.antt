-- What the tables of subcommands are to clap.
use Rattle.std.specs.Prelude.{Bool, List, [], ◌∷◌, true, false, fold, map}
use Rattle.clap.specs.Words.{App, Rule, Text, with_subcommand}
use Rattle.coap_arguments.specs.CommandLine.{flag_of, leaf, option_of, optional_word, repeated_of, required_word}
use Rattle.coap_arguments.specs.CommandLine.{short_flag_of}
use Rattle.coap_arguments.specs.declared.arguments.Argument.{Argument}
use Rattle.coap_arguments.specs.declared.arguments.Form.{Form}
use Rattle.coap_arguments.specs.declared.arguments.Form.TheVariants.{Required, Optional, Single, Repeated, Flag}
use Rattle.coap_arguments.specs.declared.arguments.Form.TheVariants.{ShortFlag}
use Rattle.coap_arguments.specs.declared.arguments.Subcommand.{Subcommand}

-- an argument of this form and name
abbrev pub rule_by : Form → Text → Rule
rule_by Required name = required_word name
rule_by Optional name = optional_word name
rule_by (Single value_name) name = option_of name
rule_by (Repeated value_name) name = repeated_of name
rule_by Flag name = flag_of name
rule_by (ShortFlag letter) name = short_flag_of letter name

-- an argument
abbrev pub rule_in : Argument → Rule
rule_in argument = rule_by argument.form argument.name.now

-- the first of these arguments has to be there
abbrev pub is_required : Form → Bool
is_required Required = true
is_required _ = false

abbrev pub begins_required : List Argument → Bool
begins_required [] = false
begins_required (argument ∷ arguments) = is_required argument.form

-- a subcommand: where it has no words, and needs some, help is the answer
abbrev pub app_in : Subcommand → App
app_in subcommand = leaf subcommand.name.now (begins_required subcommand.arguments.now)
    (map rule_in subcommand.arguments.now)

-- a program with the subcommands of a table, in order
abbrev pub with_subcommands : App → List Subcommand → App
with_subcommands program subcommands =
    fold (λ program subcommand. with_subcommand program (app_in subcommand).top) program subcommands
