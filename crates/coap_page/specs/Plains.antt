-- The plain paths of a run, as text, one a line.
use Rattle.std.specs.Prelude.{◌<◌, ◌⊎◌, ℕ, List, length}
use Rattle.coap_server.specs.declared.limits.TheConstants.{MAX_PLAINS as max_plains}
use Rattle.coap_server.specs.declared.server.plain.PlainRefusal.{PlainRefusal}
use Rattle.coap_server.specs.declared.server.plain.PlainRefusal.TheVariants as plain
use Rattle.coap_scripts.specs.Script.{EachNames, IsFirstBad, NamesPath, lines_of}
use Rattle.coap_scripts.specs.Sims.{each_once}
use Rattle.coap_scripts.specs.declared.script.refusal.ScriptRefusal.{ScriptRefusal}
use Rattle.coap_scripts.specs.declared.script.refusal.ScriptRefusal.TheVariants as script
use Rattle.coap_page.specs.declared.configured.NoConfig.{NoConfig}
use Rattle.coap_page.specs.declared.configured.NoConfig.TheVariants as config

-- the lines of the text say these paths
abbrev pub SaysPlains : List ℕ → List (List (List ℕ)) → Type 0
SaysPlains text paths = EachNames (lines_of text) paths

-- more of them differ than may be plain
abbrev pub AreTooMany : List (List (List ℕ)) → Type 0
AreTooMany paths = max_plains < length (each_once paths)

-- a line of the text says no path, or they say too many
abbrev pub HasNoPlains : List ℕ → Type 0
HasNoPlains text = ((number : ℕ) × IsFirstBad (λ path line. NamesPath line path) (lines_of text) number)
    ⊎ ((paths : List (List (List ℕ))) × SaysPlains text paths × AreTooMany paths)

-- a path that can't be made plain
abbrev pub of_plain : PlainRefusal → NoConfig
of_plain plain.Full = config.Plains
of_plain plain.Memory = config.Memory

-- a text that says no paths
abbrev pub of_paths : ScriptRefusal → NoConfig
of_paths (script.Line _) = config.Plains
of_paths script.Memory = config.Memory
