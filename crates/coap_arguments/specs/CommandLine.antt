-- The command line of the program, as a value: the arguments of each subcommand. The program builds it of tables of its
-- own.
use Rattle.std.specs.Prelude.{ℕ, Bool, List, [], ◌∷◌, Some, true, false, codes, fold}
use Rattle.clap.specs.Simple.{new_shape}
use Rattle.clap.specs.Words.{App, Rule, Text, new_app, new_rule, with_subcommand}
use Rattle.clap.specs.declared.builder.ArgAction.TheVariants.{Append, Set, SetTrue}

-- a word that has to be there
abbrev pub required_word : Text → Rule
required_word name = record (new_rule name) { action = Some Set; required = true }

-- a word that may be left out
abbrev pub optional_word : Text → Rule
optional_word name = record (new_rule name) { action = Some Set }

-- `--NAME` and a value of it, which may be left out
abbrev pub option_of : Text → Rule
option_of name = record (new_rule name) { long = Some name; action = Some Set; value_names = 1 }

-- `--NAME` and a value of it, any number of times
abbrev pub repeated_of : Text → Rule
repeated_of name = record (new_rule name) { long = Some name; action = Some Append; value_names = 1 }

-- `--NAME`, which may be left out
abbrev pub flag_of : Text → Rule
flag_of name = record (new_rule name) { long = Some name; action = Some SetTrue }

-- the same, for which a letter stands, too
abbrev pub short_flag_of : ℕ → Text → Rule
short_flag_of letter name = record (flag_of name) { short = Some letter }

-- `--trace`, or `-v` (118)
abbrev pub trace_flag : Rule
trace_flag = short_flag_of 118 (codes "trace")

-- what each subcommand takes that makes an end: `--word N`, `--limit N` and `--remember N`
abbrev pub of_an_end : List Rule
of_an_end = option_of (codes "word") ∷ option_of (codes "limit") ∷ option_of (codes "remember") ∷ []

-- how a client tells of what it does: `--trace`, `--json`, `--pcap FILE`; and `--give-up SECONDS`
abbrev pub telling : List Rule → List Rule
telling rest = trace_flag ∷ flag_of (codes "json") ∷ option_of (codes "pcap") ∷ option_of (codes "give-up") ∷ rest

-- what each subcommand takes besides that makes a client: `--host HOST`, `--size N`, and how it tells
abbrev pub of_a_client : List Rule
of_a_client = option_of (codes "host") ∷ option_of (codes "size") ∷ telling of_an_end

-- on what a change is made: `--if-match HEX`, again and again, and `--if-none-match`
abbrev pub conditions : List Rule → List Rule
conditions rest = repeated_of (codes "if-match") ∷ flag_of (codes "if-none-match") ∷ rest

-- a body, as a word or in a file, and its format
abbrev pub with_body : List Rule → List Rule
with_body rest = optional_word (codes "BODY") ∷ option_of (codes "file") ∷ option_of (codes "format") ∷ rest

-- what each subcommand takes first that asks something of a server: PORT and PATH, or a URI in the place of both
abbrev pub asking : List Rule → List Rule
asking rest = required_word (codes "PORT|URI") ∷ optional_word (codes "PATH") ∷ rest

-- how a server is set up: `--address ADDRESS`, and `--hold PATH=BODY`, `--delay PATH=MS` and `--plain PATH`, each again
-- and again, `--trace`, `--changes`, `--json`, `--script FILE`, `--pcap FILE`, `--journal FILE` and `--renew`
abbrev pub setting_up : List Rule → List Rule
setting_up rest = option_of (codes "address") ∷ repeated_of (codes "hold") ∷ repeated_of (codes "delay")
    ∷ repeated_of (codes "plain") ∷ trace_flag ∷ flag_of (codes "changes") ∷ flag_of (codes "json")
    ∷ option_of (codes "script") ∷ option_of (codes "pcap") ∷ option_of (codes "journal")
    ∷ flag_of (codes "renew") ∷ rest

-- a command with these arguments and no subcommand; where it has no words, it may answer with its help
abbrev pub leaf : Text → Bool → List Rule → App
leaf name helps rules =
    record { top = record (new_shape name) { rules = rules; arg_required_else_help = helps }; subs = [] }

-- one that needs words does
abbrev pub worded : Text → List Rule → App
worded name rules = leaf name true rules

abbrev pub show_app : App
show_app = worded (codes "show") (required_word (codes "HEX") ∷ [])

-- `coap dump --pcap FILE --chart`
abbrev pub dump_app : App
dump_app = leaf (codes "dump") false (option_of (codes "pcap") ∷ flag_of (codes "chart") ∷ [])

abbrev pub answer_app : App
answer_app = worded (codes "answer")
    (required_word (codes "PATH") ∷ required_word (codes "BODY") ∷ required_word (codes "HEX") ∷ [])

abbrev pub pair_app : App
pair_app = worded (codes "pair") (required_word (codes "PATH") ∷ required_word (codes "BODY") ∷ of_an_end)

-- `coap serve PORT COUNT`, of which COUNT may be left out, and the options by which a server is set up
abbrev pub serve_app : App
serve_app = worded (codes "serve")
    (required_word (codes "PORT") ∷ optional_word (codes "COUNT") ∷ setting_up of_an_end)

-- `coap get PORT PATH --accept N --etag HEX`, the latter again and again, `--every SECONDS`, `--count N`, and the
-- options of a client
abbrev pub get_app : App
get_app = worded (codes "get")
    (asking (option_of (codes "accept") ∷ repeated_of (codes "etag") ∷ option_of (codes "every")
    ∷ option_of (codes "count") ∷ of_a_client))

abbrev pub put_app : App
put_app = worded (codes "put") (asking (with_body (conditions of_a_client)))

abbrev pub post_app : App
post_app = worded (codes "post") (asking (with_body (conditions of_a_client)))

abbrev pub delete_app : App
delete_app = worded (codes "delete") (asking (conditions of_a_client))

-- `coap observe PORT PATH --count N --seconds N --again SECONDS --hex`, and the options of a client
abbrev pub observe_app : App
observe_app = worded (codes "observe")
    (asking (option_of (codes "count") ∷ option_of (codes "seconds") ∷ option_of (codes "again")
    ∷ flag_of (codes "hex") ∷ of_a_client))

-- `coap discover PORT`, for which a URI may stand, and the options of a client
abbrev pub discover_app : App
discover_app = worded (codes "discover") (required_word (codes "PORT|URI") ∷ of_a_client)

-- `coap ping PORT --count N`, for which a URI may stand, `--host HOST`, and how it tells
abbrev pub ping_app : App
ping_app = worded (codes "ping")
    (required_word (codes "PORT|URI") ∷ option_of (codes "count") ∷ option_of (codes "host") ∷ telling [])

-- `coap sim FILE --store list|map`, `--plain PATH`, again and again, `--remember N` and `--chart`; and where the ends
-- stand, `--client A.B.C.D:PORT` and `--server A.B.C.D:PORT`; and `--pcap FILE`
abbrev pub sim_app : App
sim_app = worded (codes "sim")
    (required_word (codes "FILE") ∷ option_of (codes "store") ∷ repeated_of (codes "plain")
    ∷ option_of (codes "remember") ∷ flag_of (codes "chart") ∷ option_of (codes "client")
    ∷ option_of (codes "server") ∷ option_of (codes "pcap") ∷ [])

-- the program, without its subcommands: one has to be there, and where nothing is, help is the answer
abbrev pub base_app : App
base_app = record (new_app (codes "coap")) {
  top = record (new_app (codes "coap")).top { subcommand_required = true; arg_required_else_help = true };
}

-- what asks nothing of a server elsewhere, what asks one for a body or sends it one, and what asks one something else
abbrev pub other_apps : List App
other_apps = show_app ∷ dump_app ∷ answer_app ∷ pair_app ∷ serve_app ∷ sim_app ∷ []

abbrev pub asking_apps : List App
asking_apps = get_app ∷ put_app ∷ post_app ∷ []

abbrev pub more_asking_apps : List App
more_asking_apps = delete_app ∷ observe_app ∷ discover_app ∷ ping_app ∷ []

-- a program with these subcommands, too
abbrev pub with_apps : App → List App → App
with_apps program apps = fold (λ program app. with_subcommand program app.top) program apps

-- the program, whose words name one of its subcommands
abbrev pub coap_app : App
coap_app = with_apps (with_apps (with_apps base_app other_apps) asking_apps) more_asking_apps
