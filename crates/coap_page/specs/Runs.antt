-- What is told of the run of a script, where these paths are plain.
use Rattle.std.specs.Prelude.{◌≡◌, ◌⊎◌, ◌++◌, ℕ, List, [], codes}
use Rattle.std.specs.Fmt.{decimal}
use Rattle.coap_types.specs.declared.remembered.TheConstants.{DEFAULT_REMEMBERED as default_remembered}
use Rattle.coap_record.specs.Events.{usual_addresses, Config, Event}
use Rattle.coap_run.specs.Run.Log.{Log}
use Rattle.coap_run.specs.Run.Runs.{IsFirstWrong, IsRunOf}
use Rattle.coap_scripts.specs.Script.{EachSays, IsFirstBad, SaysEvent, lines_of}
use Rattle.coap_scripts.specs.Sims.{sim_config}
use Rattle.coap_page.specs.Plains.{HasNoPlains, SaysPlains}
use Rattle.coap_page.specs.declared.ended.Ended.{Ended}
use Rattle.coap_page.specs.declared.ended.Ended.TheVariants as ended

-- A run begins as that of `coap sim` does, and the paths that the text says are plain.
abbrev pub IsConfigured : (plains : List ℕ) → Config → Type 0
IsConfigured plains config = (paths : List (List (List ℕ))) × SaysPlains plains paths
    × (config ≡ sim_config usual_addresses default_remembered paths)

abbrev pub not_legal : ℕ → List ℕ
not_legal number = codes "not legal " ++ (decimal number ++ codes "\n")

abbrev pub bad_line : ℕ → List ℕ
bad_line number = codes "bad line " ++ (decimal number ++ codes "\n")

-- What is told of a run of these events: they came to their end, each of them legal, or the event that is named is the
-- first that is not legal.
abbrev pub IsToldOf : Config → List Event → Ended → List ℕ → Type 0
IsToldOf config events ended.Done text = (log : Log) × IsRunOf config events log
IsToldOf config events ended.Refused text = (number : ℕ) × (text ≡ not_legal number) × IsFirstWrong config events number
IsToldOf config events _ text = ⊥

-- .. of the events that the lines of the script say
abbrev pub IsToldOfScript : (script plains : List ℕ) → Ended → List ℕ → Type 0
IsToldOfScript script plains ends text = (config : Config) × IsConfigured plains config × (events : List Event)
    × EachSays (lines_of script) events × IsToldOf config events ends text

-- What comes of a script. Its run is told, or which event is the first that is not legal, or which line is the first
-- that says no event. Nothing is told where the plain paths can't be read, or are too many, and nothing for want of
-- memory.
abbrev pub IsTold : (script plains : List ℕ) → Ended → List ℕ → Type 0
IsTold script plains ended.Done text = IsToldOfScript script plains ended.Done text
IsTold script plains ended.Refused text = IsToldOfScript script plains ended.Refused text
IsTold script plains ended.Words text = ((text ≡ []) × HasNoPlains plains)
    ⊎ ((number : ℕ) × (text ≡ bad_line number) × IsFirstBad SaysEvent (lines_of script) number)
IsTold script plains ended.Small text = ⊥
IsTold script plains ended.Memory text = text ≡ []
