-- With what the run of a script begins, and what it comes to.
use Rattle.std.specs.Prelude.{◌≡◌, ◌≢◌, ◌⊎◌, ◌++◌, ◌∷◌, ℕ, ⊤, List, [], true, false, fold, Option, codes, decimal}
use Rattle.std.specs.Io.KnownBytes.{Appends}
use Rattle.coap_types.specs.declared.szx.TheConstants.{MAX_SZX as max_szx}
use Rattle.coap_layer.specs.declared.setup.Setup.{Setup}
use Rattle.coap_block.specs.Sizes.{usual_sizes}
use Rattle.coap_resource.specs.Limits.{usual_limits}
use Rattle.coap_resource.specs.declared.tally.TheConstants.{MAX_CHANGES_PER_WINDOW as max_changes}
use Rattle.coap_server.specs.Plain.{may_be_plain, plains_with}
use Rattle.coap_record.specs.Events.{Config, Event}
use Rattle.coap_record.specs.declared.addresses.Addresses.{Addresses}
use Rattle.coap_run.specs.Run.Log.{Log}
use Rattle.coap_run.specs.Run.Runs.{IsFirstWrong, IsRunOf}
use Rattle.coap_scripts.specs.Script.{EachSays, IsFirstBad, SaysEvent, lines_of}
use Rattle.coap_status.specs.declared.status.Status.{Status}
use Rattle.coap_status.specs.declared.status.Status.TheVariants as status

-- an end: with word 0, and so many remembered messages
abbrev pub sim_setup : ℕ → Setup
sim_setup remembered = record { word = 0; remembered = remembered }

-- these paths, each once, in the order in which they are named first
abbrev pub each_once : List (List (List ℕ)) → List (List (List ℕ))
each_once paths = fold (λ ps path. plains_with path true ps) [] paths

-- the ends stand at these addresses, both have the largest blocks and the usual limits, no path has a delay, and these
-- are plain
abbrev pub sim_config : Addresses → ℕ → List (List (List ℕ)) → Config
sim_config ends remembered paths = record {
  addresses = ends;
  client_setup = sim_setup remembered;
  client_sizes = usual_sizes max_szx;
  server_setup = sim_setup remembered;
  server_szx = max_szx;
  limits = usual_limits max_changes;
  delays = [];
  plains = each_once paths;
}

-- What the run of these events comes to: it came to its end, or one of them is not legal. Nothing is run where a line
-- is none, where both ends have one address, or where there are too many plain paths.
abbrev pub IsSim : Config → List Event → Status → Type 0
IsSim config events status.Done = (log : Log) × IsRunOf config events log
IsSim config events status.Refused = (number : ℕ) × IsFirstWrong config events number
IsSim config events status.Words = ⊤
IsSim config events status.Failed = ⊥
IsSim config events status.Memory = ⊥

-- what is told of a line that says no event, and of an event that is not legal
abbrev pub bad_line_text : ℕ → List ℕ
bad_line_text number = codes "bad line " ++ (decimal number ++ codes "\n")

abbrev pub not_legal_text : ℕ → List ℕ
not_legal_text number = codes "not legal " ++ (decimal number ++ codes "\n")

-- of these paths one is not plain yet, and has no place behind those before it
abbrev pub AreTooMany : List (List (List ℕ)) → Type 0
AreTooMany paths = (before : List (List (List ℕ))) × (path : List (List ℕ)) × (behind : List (List (List ℕ)))
    × (paths ≡ before ++ path ∷ behind) × (may_be_plain path (each_once before) ≡ false)

-- no run can begin so: both ends have one address, or there are too many plain paths
abbrev pub IsUnset : Addresses → List (List (List ℕ)) → Type 0
IsUnset ends paths = (ends.client ≢ ends.server → ⊥) ⊎ AreTooMany paths

-- A script comes to this: one of its lines is the first that says no event, and that is written behind what a writer
-- has; or its lines say these events, one a line, and it is what their run comes to, where one can begin.
abbrev pub IsSimOf : (old new : Option (List ℕ)) → Addresses → ℕ → List (List (List ℕ)) → List ℕ → Status → Type 0
IsSimOf old new ends remembered paths script s =
    ((number : ℕ) × IsFirstBad SaysEvent (lines_of script) number × (s ≡ status.Words)
    × Appends old new (bad_line_text number))
    ⊎ ((events : List Event) × EachSays (lines_of script) events × IsSim (sim_config ends remembered paths) events s
    × (s ≡ status.Words → IsUnset ends paths))
