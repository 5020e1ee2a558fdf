-- How a run of the program ends: its exit status, and which status answers what is wrong in the words.
use Rattle.std.specs.Prelude.{◌≡◌, ◌⊎◌, ⊤, ℕ, List, Option, Result, Ok, Err, IfOk, IsSome}
use Rattle.clap.specs.Words.{Text}
use Rattle.coap_arguments.specs.Words.{AsksFor, IsWrong}
use Rattle.coap_layer.specs.Machine.State.{usual}
use Rattle.coap_record.specs.Events.{Event}
use Rattle.coap_record.specs.declared.addresses.TheConstants.{CLIENT_END as client_end}
use Rattle.coap_types.specs.declared.body_limit.TheConstants.{DEFAULT_BODY_LIMIT as default_limit}
use Rattle.coap_answers.specs.Answering.{PrintsAnswer}
use Rattle.coap_showing.specs.Captured.{IsCaptureStatus}
use Rattle.coap_answers.specs.Shown.{IsShown}
use Rattle.coap_answers.specs.Ends.{server_limits}
use Rattle.coap_commands.specs.Pairs.{IsPaired}
use Rattle.coap_serving.specs.Kept.{IsServedAsSaid}
use Rattle.coap_asking.specs.PingLines.{IsPinged}
use Rattle.coap_asking.specs.Tasks.{IsAsked, IsDiscovered}
use Rattle.coap_status.specs.StatusNumbers.{status_number}
use Rattle.coap_scripts.specs.Sims.{IsSim, sim_config}
use Rattle.coap_status.specs.declared.status.Status.{Status}
use Rattle.coap_status.specs.declared.status.Status.TheVariants as status
use Rattle.coap_status.specs.declared.status.Stop.{Stop}
use Rattle.coap_status.specs.declared.status.Stop.TheVariants as stop
use Rattle.coap_arguments.specs.declared.orders.Order.{Order}
use Rattle.coap_arguments.specs.declared.orders.Order.TheVariants.{Answer, Ask, Discover, Dump, DumpCapture}
use Rattle.coap_arguments.specs.declared.orders.Order.TheVariants.{Pair, Ping, Serve, Show, Sim, Version}
use Rattle.coap_arguments.specs.declared.orders.Wrong.{Wrong}
use Rattle.coap_arguments.specs.declared.orders.Wrong.TheVariants.{Words, Path, Number, Word, Address, Size, Tags}
use Rattle.coap_arguments.specs.declared.orders.Wrong.TheVariants.{Setting, Body, Store, Plains, Ends as NoEnds}
use Rattle.coap_arguments.specs.declared.orders.Wrong.TheVariants.{Together, NoPath, Uri, Beside, Hex, Memory}
use Rattle.coap_showing.specs.Dumps.{IsOfScript}

-- the status of a run that came to its end, or stopped
abbrev pub status_of : Result Status Stop → Status
status_of (Ok s) = s
status_of (Err stop.Failed) = status.Failed
status_of (Err stop.Memory) = status.Memory

-- the order reads a text: a script, or lines of hex; or a capture
abbrev pub ReadsText : Order → Type 0
ReadsText (Sim file store plains remembered chart client server pcap) = ⊤
ReadsText Dump = ⊤
ReadsText (DumpCapture file chart) = ⊤
ReadsText (Serve port count options script pcap journal) = IsSome script
ReadsText _ = ⊥

-- what this order comes to, carried out to its end; what an answer, a pair, a server, a client and pings print is
-- written behind what standard output has
abbrev pub CarriesOut : (old new : Option (List ℕ)) → Order → Status → Type 0
CarriesOut old new (Sim file store plains remembered chart client server pcap) s = (events : List Event)
    × IsSim (sim_config (record { client = client; server = server }) remembered plains.items) events s
CarriesOut old new (Show datagram) s = IsShown datagram.items s
CarriesOut old new Dump s = IsOfScript s
CarriesOut old new (DumpCapture file chart) s = (bytes : List ℕ) × IsCaptureStatus bytes s
CarriesOut old new Version s = s ≡ status.Done
CarriesOut old new (Answer path body datagram) s =
    PrintsAnswer (server_limits default_limit) (usual 0) path body.now old new 0 client_end 0 datagram.items s
CarriesOut old new (Pair path body word limit remembered) s = IsPaired old new path body.now word limit remembered s
CarriesOut old new (Serve port count options script pcap journal) s =
    IsServedAsSaid old new count options script journal s
CarriesOut old new (Ask server path what options pcap) s = IsAsked old new server path what options s
CarriesOut old new (Discover server options pcap) s = IsDiscovered old new server options s
CarriesOut old new (Ping server options pcap) s = IsPinged old new options s

-- what telling of a wrong comes to: bad hex is told on standard output, which may fail
abbrev pub IsTold : Wrong → Result Status Stop → Type 0
IsTold (Words error) ended = ended ≡ Ok status.Words
IsTold (Path refusal) ended = ended ≡ Ok status.Words
IsTold (Number refusal) ended = ended ≡ Ok status.Words
IsTold Word ended = ended ≡ Ok status.Words
IsTold (Address refusal) ended = ended ≡ Ok status.Words
IsTold Size ended = ended ≡ Ok status.Words
IsTold (Tags refusal) ended = ended ≡ Ok status.Words
IsTold (Setting refusal) ended = ended ≡ Ok status.Words
IsTold Body ended = ended ≡ Ok status.Words
IsTold Store ended = ended ≡ Ok status.Words
IsTold Plains ended = ended ≡ Ok status.Words
IsTold (NoEnds refusal) ended = ended ≡ Ok status.Words
IsTold (Together refusal) ended = ended ≡ Ok status.Words
IsTold NoPath ended = ended ≡ Ok status.Words
IsTold (Uri refusal) ended = ended ≡ Ok status.Words
IsTold (Beside refusal) ended = ended ≡ Ok status.Words
IsTold Hex ended = (ended ≡ Ok status.Words) ⊎ (ended ≡ Err stop.Failed)
IsTold Memory ended = ended ≡ Err stop.Memory

-- What is wrong in the words is answered so: 2, or 4 where memory is refused; where bad hex can't be printed, 3. Want
-- of memory says nothing of the words.
abbrev pub IsAnswered : Wrong → ℕ → Type 0
IsAnswered (Words error) n = (n ≡ 2) ⊎ (n ≡ 4)
IsAnswered (Path refusal) n = (n ≡ 2) ⊎ (n ≡ 4)
IsAnswered (Number refusal) n = (n ≡ 2) ⊎ (n ≡ 4)
IsAnswered Word n = (n ≡ 2) ⊎ (n ≡ 4)
IsAnswered (Address refusal) n = (n ≡ 2) ⊎ (n ≡ 4)
IsAnswered Size n = (n ≡ 2) ⊎ (n ≡ 4)
IsAnswered (Tags refusal) n = (n ≡ 2) ⊎ (n ≡ 4)
IsAnswered (Setting refusal) n = (n ≡ 2) ⊎ (n ≡ 4)
IsAnswered Body n = (n ≡ 2) ⊎ (n ≡ 4)
IsAnswered Store n = (n ≡ 2) ⊎ (n ≡ 4)
IsAnswered Plains n = (n ≡ 2) ⊎ (n ≡ 4)
IsAnswered (NoEnds refusal) n = (n ≡ 2) ⊎ (n ≡ 4)
IsAnswered (Together refusal) n = (n ≡ 2) ⊎ (n ≡ 4)
IsAnswered NoPath n = (n ≡ 2) ⊎ (n ≡ 4)
IsAnswered (Uri refusal) n = (n ≡ 2) ⊎ (n ≡ 4)
IsAnswered (Beside refusal) n = (n ≡ 2) ⊎ (n ≡ 4)
IsAnswered Hex n = (n ≡ 2) ⊎ ((n ≡ 3) ⊎ (n ≡ 4))
IsAnswered Memory n = ⊤

-- an order is carried out, and this is the number of its status
abbrev pub IsCarriedTo : (old new : Option (List ℕ)) → Order → ℕ → Type 0
IsCarriedTo old new order n = (s : Status) × (n ≡ status_number s) × CarriesOut old new order s

-- a run: the words ask for an order, or something is wrong with them, and it ends so
abbrev pub Ends : (old new : Option (List ℕ)) → List Text → Result Status Stop → Type 0
Ends old new words ended = ((order : Order) × AsksFor words order × IfOk ended (CarriesOut old new order))
    ⊎ ((wrong : Wrong) × IsWrong words wrong × IsTold wrong ended)
