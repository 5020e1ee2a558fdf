-- What the words of the program say, as clap reads them.
use Rattle.std.specs.Prelude.{ℕ, List, [], ◌∷◌, ◌≡◌, ◌⊎◌, ⊤, None, codes, false}
use Rattle.clap.specs.Words.{IsAmong, Row, Text, fault_of, first_of, kind_of}
use Rattle.clap.specs.declared.error.Error.{Error}
use Rattle.coap_types.specs.Path.{HoldsAtMost}
use Rattle.coap_types.specs.declared.path.TheConstants.{MAX_SEGMENT_LEN as max_segment_len}
use Rattle.coap_types.specs.declared.path.TheConstants.{MAX_SEGMENTS as max_segments}
use Rattle.coap_arguments.specs.Addresses.{HasHost, HasNoAddress}
use Rattle.coap_arguments.specs.Asking.{HasFile, HasFlag, HasNoContent, HasNoTags, HasNoUri, HasNothingBeside}
use Rattle.coap_arguments.specs.Asking.{HasOptions, HasPingOptions, HasUri, IsAsk, IsBodyWord, IsWhat, IsWrongBeside}
use Rattle.coap_arguments.specs.Asking.{SendsBody}
use Rattle.coap_arguments.specs.CommandLine.{coap_app}
use Rattle.coap_arguments.specs.Ends.{AreNoEnds, HasEnds}
use Rattle.coap_arguments.specs.Plains.{HasNoPlain, HasPlains, HasTooManyPlains}
use Rattle.coap_arguments.specs.Serving.{HasJournal, HasNoSetting, HasServeOptions, serving_word}
use Rattle.coap_arguments.specs.Sizes.{HasNoSize}
use Rattle.coap_arguments.specs.Together.{AreApart, GoServed}
use Rattle.coap_arguments.specs.Uris.{IsPlace, IsWrongUri}
use Rattle.coap_arguments.specs.Values.{Enters, HasBytes, HasCount, HasLimit, HasNoBytes, HasNoNumber, HasNoPath}
use Rattle.coap_arguments.specs.Values.{HasNoStore}
use Rattle.coap_arguments.specs.Values.{HasNoWord, HasNumber, HasPath, HasRemembered, HasStore, HasWord, IsValue}
use Rattle.coap_arguments.specs.declared.orders.Order.{Order}
use Rattle.coap_arguments.specs.declared.hosts.Host.{Host}
use Rattle.coap_arguments.specs.declared.hosts.Server.{Server}
use Rattle.coap_arguments.specs.declared.orders.Order.TheVariants.{Version, Show, Dump, DumpCapture, Answer, Pair}
use Rattle.coap_arguments.specs.declared.orders.Order.TheVariants.{Serve, Ask, Discover, Ping, Sim}
use Rattle.coap_arguments.specs.declared.orders.What.{What}
use Rattle.coap_arguments.specs.declared.refusals.NumberRefusal.TheVariants.{Port, ServerPort}
use Rattle.coap_arguments.specs.declared.orders.TheConstants.{DEFAULT_WORD as default_word}
use Rattle.coap_arguments.specs.declared.orders.WordChoice.TheVariants.{Given}
use Rattle.coap_arguments.specs.declared.orders.Wrong.{Wrong}
use Rattle.coap_arguments.specs.declared.orders.Wrong.TheVariants.{Words, Path, Number, Word, Address, Size, Tags}
use Rattle.coap_arguments.specs.declared.orders.Wrong.TheVariants.{Setting, Body, Store, Plains, Ends, Together}
use Rattle.coap_arguments.specs.declared.orders.Wrong.TheVariants.{NoPath, Uri, Beside}
use Rattle.coap_arguments.specs.declared.orders.Wrong.TheVariants.{Hex, Memory}

-- by PORT and PATH this is asked of a server at this host
abbrev pub AsksByPort : Text → List Row → Host → List (List ℕ) → What → Type 0
AsksByPort subcommand values host path what = HasNoUri values × HasPath values path
    × HoldsAtMost max_segments max_segment_len path × HasHost values host
    × IsWhat (codes "BODY") subcommand values what

-- by a URI
abbrev pub AsksByUri : Text → List Row → Server → List (List ℕ) → What → Type 0
AsksByUri subcommand values server path what = (text rest : Text) × HasUri values text rest
    × IsPlace text rest server path × HasNothingBeside subcommand values
    × IsWhat (codes "PATH") subcommand values what

-- the server itself, by PORT, or by a URI that has no path
abbrev pub IsServer : Text → List Row → Server → Type 0
IsServer subcommand values server = HasNumber ServerPort values server.port
    × ((HasNoUri values × HasHost values server.host)
    ⊎ ((text rest : Text) × HasUri values text rest × IsPlace text rest server [] × HasNothingBeside subcommand values))

-- the subcommand with these values says this order
abbrev pub AsksForIn : Text → List Row → Order → Type 0
AsksForIn subcommand values Version = ⊥
AsksForIn subcommand values (Show datagram) = (subcommand ≡ codes "show") × HasBytes values datagram.items
AsksForIn subcommand values Dump = (subcommand ≡ codes "dump") × (first_of (codes "pcap") values ≡ None)
    × HasFlag (codes "chart") values false
AsksForIn subcommand values (DumpCapture file chart) = (subcommand ≡ codes "dump")
    × IsValue (codes "pcap") values file.now × HasFlag (codes "chart") values chart
AsksForIn subcommand values (Answer path body datagram) =
    (subcommand ≡ codes "answer") × HasPath values path × HoldsAtMost max_segments max_segment_len path
    × IsValue (codes "BODY") values body.now × HasBytes values datagram.items
AsksForIn subcommand values (Pair path body word limit remembered) =
    (subcommand ≡ codes "pair") × HasPath values path × HoldsAtMost max_segments max_segment_len path
    × IsValue (codes "BODY") values body.now × HasWord (Given default_word) values word × HasLimit values limit
    × HasRemembered values remembered
AsksForIn subcommand values (Serve port count options script pcap journal) =
    (subcommand ≡ codes "serve") × HasNumber Port values port × HasCount values count × GoServed values
    × HasServeOptions (serving_word count) values options × HasFile (codes "script") values script
    × HasFile (codes "pcap") values pcap × HasJournal values journal
AsksForIn subcommand values (Ask server path what options pcap) =
    HasNumber ServerPort values server.port × (AsksByPort subcommand values server.host path what
    ⊎ AsksByUri subcommand values server path what) × HasOptions values options × HasFile (codes "pcap") values pcap
AsksForIn subcommand values (Discover server options pcap) =
    (subcommand ≡ codes "discover") × IsServer subcommand values server × HasOptions values options
    × HasFile (codes "pcap") values pcap
AsksForIn subcommand values (Ping server options pcap) =
    (subcommand ≡ codes "ping") × IsServer subcommand values server × HasPingOptions values options
    × HasFile (codes "pcap") values pcap
AsksForIn subcommand values (Sim file store plains remembered chart client server pcap) =
    (subcommand ≡ codes "sim") × IsValue (codes "FILE") values file.now × HasStore values store
    × HasPlains values plains.items × HasRemembered values remembered × HasFlag (codes "chart") values chart
    × HasEnds values client server × HasFile (codes "pcap") values pcap

-- the subcommand with these values takes a PATH: one that asks, where no URI stands in its place
abbrev pub TakesPath : Text → List Row → Type 0
TakesPath subcommand values = (subcommand ≡ codes "answer")
    ⊎ ((subcommand ≡ codes "pair") ⊎ (IsAsk subcommand × HasNoUri values))

-- the words are the program's name and `--version`
abbrev pub IsVersion : List Text → Type 0
IsVersion words = (name : Text) × (words ≡ name ∷ codes "--version" ∷ [])

-- the words say this order
abbrev pub AsksFor : List Text → Order → Type 0
AsksFor words order = (IsVersion words × (order ≡ Version))
    ⊎ ((subcommand : Text) × (values : List Row) × Enters words subcommand values
    × AsksForIn subcommand values order)

-- the subcommand takes no PATH, or its PATH is a text of a path
abbrev pub IsPathFine : Text → List Row → Type 0
IsPathFine subcommand values = (subcommand ≡ codes "show")
    ⊎ ((subcommand ≡ codes "answer") × (segments : List (List ℕ)) × HasPath values segments
    × HoldsAtMost max_segments max_segment_len segments)

-- the words ask for no version, clap refuses them, and the error is of a kind that they call for
abbrev pub IsRefusedBy : Error → List Text → Type 0
IsRefusedBy error words = (IsVersion words → ⊥) × IsAmong (kind_of error) (fault_of coap_app words)

-- this is wrong in the values of the subcommand, which are those of arguments that it takes; of memory that is refused
-- they say nothing
abbrev pub IsWrongIn : Text → List Row → Wrong → Type 0
IsWrongIn subcommand values (Words error) = ⊥
-- the PATH, or a value of `--plain`, is a text of no path, for this reason
IsWrongIn subcommand values (Path refusal) = (TakesPath subcommand values × HasNoPath values refusal)
    ⊎ HasNoPlain values refusal
-- this argument is no number in its range
IsWrongIn subcommand values (Number refusal) = HasNoNumber refusal values
-- `--word` is no choice of a word
IsWrongIn subcommand values Word = HasNoWord values
-- this argument is no address, and no name where it may be one
IsWrongIn subcommand values (Address refusal) = HasNoAddress refusal values
-- `--size` is no size of a block
IsWrongIn subcommand values Size = HasNoSize values
-- this argument is no entity-tag, or is given too often
IsWrongIn subcommand values (Tags refusal) = HasNoTags refusal values
-- this argument says nothing of how a server is set up, or is given too often
IsWrongIn subcommand values (Setting refusal) = HasNoSetting refusal values
-- both of the body as a word and `--file` are there, or neither
IsWrongIn subcommand values Body = SendsBody subcommand × (word : Text) × IsBodyWord word values
    × HasNoContent word values
-- `--store` names no store
IsWrongIn subcommand values Store = HasNoStore values
-- `--plain` names more paths than a server takes
IsWrongIn subcommand values Plains = HasTooManyPlains values
-- the ends of the run have no place to stand at, or one for both
IsWrongIn subcommand values (Ends refusal) = (subcommand ≡ codes "sim") × AreNoEnds refusal values
-- options don't go together
IsWrongIn subcommand values (Together refusal) = AreApart refusal subcommand values
-- behind a PORT there is no PATH
IsWrongIn subcommand values NoPath = IsAsk subcommand × HasNoUri values × (first_of (codes "PATH") values ≡ None)
-- the URI says no resource that is asked for, for this reason
IsWrongIn subcommand values (Uri refusal) = (text rest : Text) × HasUri values text rest × IsWrongUri refusal text rest
-- beside a URI stands what it says itself
IsWrongIn subcommand values (Beside refusal) = (text rest : Text) × HasUri values text rest
    × IsWrongBeside refusal subcommand values
-- a PATH is a text of a path, and HEX is the hex of no list of bytes
IsWrongIn subcommand values Hex = IsPathFine subcommand values × HasNoBytes values
IsWrongIn subcommand values Memory = ⊤

-- clap takes the words, and this is wrong in the values of the subcommand that they enter
abbrev pub EntersWrong : List Text → Wrong → Type 0
EntersWrong words wrong =
    (subcommand : Text) × (values : List Row) × Enters words subcommand values × IsWrongIn subcommand values wrong

-- this is wrong in the words; of memory that is refused they say nothing
abbrev pub IsWrong : List Text → Wrong → Type 0
IsWrong words (Words error) = IsRefusedBy error words
IsWrong words (Path refusal) = EntersWrong words (Path refusal)
IsWrong words (Number refusal) = EntersWrong words (Number refusal)
IsWrong words Word = EntersWrong words Word
IsWrong words (Address refusal) = EntersWrong words (Address refusal)
IsWrong words Size = EntersWrong words Size
IsWrong words (Tags refusal) = EntersWrong words (Tags refusal)
IsWrong words (Setting refusal) = EntersWrong words (Setting refusal)
IsWrong words Body = EntersWrong words Body
IsWrong words Store = EntersWrong words Store
IsWrong words Plains = EntersWrong words Plains
IsWrong words (Ends refusal) = EntersWrong words (Ends refusal)
IsWrong words (Together refusal) = EntersWrong words (Together refusal)
IsWrong words NoPath = EntersWrong words NoPath
IsWrong words (Uri refusal) = EntersWrong words (Uri refusal)
IsWrong words (Beside refusal) = EntersWrong words (Beside refusal)
IsWrong words Hex = EntersWrong words Hex
IsWrong words Memory = ⊤
