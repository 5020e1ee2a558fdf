-- What a client is handed for what the words ask for, and what it comes to.
use Rattle.std.specs.Prelude.{◌≡◌, ℕ, true, false, List, [], Option, None, Some}
use Rattle.coap_types.specs.declared.endpoint.Endpoint.{Endpoint}
use Rattle.coap_client.specs.Object.CallShown.{shown_request}
use Rattle.coap_arguments.specs.declared.hosts.Server.{Server}
use Rattle.coap_arguments.specs.declared.orders.AskOptions.{AskOptions}
use Rattle.coap_arguments.specs.declared.orders.What.{What}
use Rattle.coap_arguments.specs.declared.orders.What.TheVariants.{Get}
use Rattle.coap_asking.specs.Asked.{IsBody, asked_request, is_observe, period_of}
use Rattle.coap_wires.specs.Words.{IsWord}
use Rattle.coap_asking.specs.Discovers.{Discovers, IsCore}
use Rattle.coap_wires.specs.Hosts.{IsServer}
use Rattle.coap_waits.specs.JsonLines.{Tells}
use Rattle.coap_asking.specs.ObservedTurns.{Observes}
use Rattle.coap_asking.specs.Polls.{Polls}
use Rattle.coap_waits.specs.Terms.{asked_terms, setup_of, sizes_of}
use Rattle.coap_asking.specs.Watches.{Watches}
use Rattle.coap_asking.specs.declared.asking.Asked.{Asked}
use Rattle.coap_asking.specs.declared.asking.Task.{Task}
use Rattle.coap_asking.specs.declared.asking.Task.TheVariants.{Discovery, Observation, Polling, Request, Watch}
use Rattle.coap_status.specs.declared.status.Status.{Status}

-- the task is the observation that the options say
abbrev pub IsObservation : List (List ℕ) → AskOptions → Task → Type 0
IsObservation path options (Observation of) = (options.again ≡ None) × (of.now ≡ path)
IsObservation path options (Watch of again) = (options.again ≡ Some again) × (of.now ≡ path)
IsObservation path options task = ⊥

-- the task is what the words ask for
abbrev pub IsTask : What → List (List ℕ) → AskOptions → Task → Type 0
IsTask what path options (Request made) =
    (is_observe what ≡ false) × (period_of what options ≡ None) × (body : List ℕ) × IsBody what body
    × (shown_request made ≡ asked_request what path options body)
IsTask what path options (Observation of) =
    (is_observe what ≡ true) × IsObservation path options (Observation of)
IsTask what path options (Watch of again) =
    (is_observe what ≡ true) × IsObservation path options (Watch of again)
IsTask what path options (Polling of every) =
    (is_observe what ≡ false) × (period_of what options ≡ Some every) × (of.now ≡ path)
IsTask what path options (Discovery made) = ⊥

-- .. a GET of what a server has
abbrev pub IsDiscovery : AskOptions → Task → Type 0
IsDiscovery options (Discovery made) =
    (path : List (List ℕ)) × IsCore path × (shown_request made ≡ asked_request Get path options [])
IsDiscovery options task = ⊥

-- a client of this server, with this word and by these options, is handed the task, and this is the status of what
-- becomes of it; an observation that may be made anew is handed to several; what became of a request, and of each
-- reading, the links that came and the values of an observation are written behind what a writer has
abbrev pub DoesAt : (old new : Option (List ℕ)) → Endpoint → AskOptions → ℕ → Task → Status → Type 0
DoesAt old new server options word (Request made) status =
    Tells options.json old new server (sizes_of (asked_terms word options)) (setup_of (asked_terms word options))
    options.give_up (shown_request made) status
DoesAt old new server options word (Discovery made) status =
    Discovers options.json old new server (sizes_of (asked_terms word options)) (setup_of (asked_terms word options))
    options.give_up (shown_request made) status
DoesAt old new server options word (Observation of) status =
    Observes old new server (sizes_of (asked_terms word options)) (setup_of (asked_terms word options)) of.now options
    status
DoesAt old new server options word (Polling of every) status =
    Polls old new server (sizes_of (asked_terms word options)) (setup_of (asked_terms word options))
    (asked_request Get of.now options []) every options status
DoesAt old new server options word (Watch of again) status = ⊥

abbrev pub IsDoneTo : (old new : Option (List ℕ)) → Endpoint → Asked → Status → Type 0
IsDoneTo old new server asked status = DoesAt old new server asked.options.now asked.word asked.task status

-- the same, of a server for which these endpoints stand
abbrev pub Does : (old new : Option (List ℕ)) → (Endpoint → Type 0) → AskOptions → ℕ → Task → Status → Type 0
Does old new Stands options word (Watch of again) status =
    Watches old new Stands word of.now options again status
Does old new Stands options word task status =
    (server : Endpoint) × Stands server × DoesAt old new server options word task status

abbrev pub IsDone : (old new : Option (List ℕ)) → (Endpoint → Type 0) → Asked → Status → Type 0
IsDone old new Stands asked status = Does old new Stands asked.options.now asked.word asked.task status

-- what the words ask for is done at the server that they say, with a word of which this holds
abbrev pub IsAskedBy : (IsChosen : ℕ → Type 0) → (old new : Option (List ℕ)) → Server → List (List ℕ) → What
    → AskOptions → Status → Type 0
IsAskedBy IsChosen old new server path what options status =
    (word : ℕ) × IsChosen word × (task : Task) × IsTask what path options task
    × Does old new (IsServer server) options word task status

-- .. with the word that is chosen
abbrev pub IsAsked : (old new : Option (List ℕ)) → Server → List (List ℕ) → What → AskOptions → Status → Type 0
IsAsked old new server path what options status =
    IsAskedBy (IsWord options.word) old new server path what options status

-- what the server has is asked for there, with a word of which this holds
abbrev pub IsDiscoveredBy : (IsChosen : ℕ → Type 0) → (old new : Option (List ℕ)) → Server → AskOptions → Status
    → Type 0
IsDiscoveredBy IsChosen old new server options status =
    (word : ℕ) × IsChosen word × (task : Task) × IsDiscovery options task
    × Does old new (IsServer server) options word task status

-- .. with the word that is chosen
abbrev pub IsDiscovered : (old new : Option (List ℕ)) → Server → AskOptions → Status → Type 0
IsDiscovered old new server options status = IsDiscoveredBy (IsWord options.word) old new server options status
