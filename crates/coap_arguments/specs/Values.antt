-- The values that arguments have, as clap reads the words.
use Rattle.std.specs.Prelude.{ℕ, List, [], ◌≡◌, ◌≢◌, ◌⊎◌, ◌<◌, ◌^◌, Some, None, Ok, true, is_some, codes}
use Rattle.clap.specs.Words.{Row, Text, fault_of, first_of, subcommand_of}
use Rattle.coap_types.specs.declared.body_limit.TheConstants.{DEFAULT_BODY_LIMIT as default_body_limit}
use Rattle.coap_types.specs.declared.path.PathRefusal.{PathRefusal}
use Rattle.coap_types.specs.declared.remembered.TheConstants.{DEFAULT_REMEMBERED as default_remembered}
use Rattle.hex.specs.Hex.{decode_of}
use Rattle.coap_arguments.specs.CommandLine.{coap_app}
use Rattle.coap_arguments.specs.Numbers.{IsInRange, IsNumber, IsOutOfRange, argument_of}
use Rattle.coap_arguments.specs.PathText.{IsNoPath, IsPathText, IsTrueOf}
use Rattle.coap_arguments.specs.declared.refusals.NumberRefusal.{NumberRefusal}
use Rattle.coap_arguments.specs.declared.refusals.NumberRefusal.TheVariants.{Count, Limit, Remember}
use Rattle.coap_arguments.specs.declared.orders.StoreKind.{StoreKind}
use Rattle.coap_arguments.specs.declared.orders.StoreKind.TheVariants as kind
use Rattle.coap_arguments.specs.declared.orders.TheConstants.{FOREVER as forever}
use Rattle.coap_arguments.specs.declared.orders.WordChoice.{WordChoice}
use Rattle.coap_arguments.specs.declared.orders.WordChoice.TheVariants.{Given, Random}

-- clap takes the words, which enter this subcommand, and these are the values of its arguments
pub record Enters (words : List Text) (subcommand : Text) (values : List Row) : Type 0 where
  pub taken : fault_of coap_app words ≡ []
  pub entered : subcommand_of coap_app words ≡ Some (subcommand, values)

-- the argument has a value
abbrev pub IsGiven : Text → List Row → Type 0
IsGiven name values = is_some (first_of name values) ≡ true

-- the value of the argument is this text
abbrev pub IsValue : Text → List Row → Text → Type 0
IsValue name values text = first_of name values ≡ Some text

-- PATH is a text of the path of these segments
abbrev pub HasPath : List Row → List (List ℕ) → Type 0
HasPath values segments = (text : Text) × IsValue (codes "PATH") values text × IsPathText text segments

-- PATH is a text of no path, for this reason
abbrev pub HasNoPath : List Row → PathRefusal → Type 0
HasNoPath values refusal = (text : Text) × IsValue (codes "PATH") values text × IsNoPath text × IsTrueOf refusal text

-- HEX is the hex of these bytes
abbrev pub HasBytes : List Row → List ℕ → Type 0
HasBytes values bytes = (text : Text) × IsValue (codes "HEX") values text × (decode_of text ≡ Ok bytes)

-- HEX is the hex of no list of bytes
abbrev pub HasNoBytes : List Row → Type 0
HasNoBytes values = (text : Text) × IsValue (codes "HEX") values text × ((bytes : List ℕ) → decode_of text ≢ Ok bytes)

-- the argument has this number
abbrev pub HasNumber : NumberRefusal → List Row → ℕ → Type 0
HasNumber argument values n = (text : Text) × IsValue (argument_of argument) values text × IsInRange argument text n

-- the argument has a value that is no number in its range
abbrev pub HasNoNumber : NumberRefusal → List Row → Type 0
HasNoNumber argument values = (text : Text) × IsValue (argument_of argument) values text × IsOutOfRange argument text

-- COUNT has this number, or is left out and stands for `forever`
abbrev pub HasCount : List Row → ℕ → Type 0
HasCount values n = ((first_of (codes "COUNT") values ≡ None) × (n ≡ forever)) ⊎ HasNumber Count values n

-- `--limit` has this number, or is left out and stands for the default
abbrev pub HasLimit : List Row → ℕ → Type 0
HasLimit values n = ((first_of (codes "limit") values ≡ None) × (n ≡ default_body_limit)) ⊎ HasNumber Limit values n

-- `--remember` has this number, or is left out and stands for the default
abbrev pub HasRemembered : List Row → ℕ → Type 0
HasRemembered values n = ((first_of (codes "remember") values ≡ None) × (n ≡ default_remembered))
    ⊎ HasNumber Remember values n

-- the text says this choice of a word
abbrev pub IsChoice : Text → WordChoice → Type 0
IsChoice text (Given n) = IsNumber text n × (n < 2 ^ 64)
IsChoice text Random = text ≡ codes "random"

-- `--word` has this choice, or is left out and stands for the usual one
abbrev pub HasWord : WordChoice → List Row → WordChoice → Type 0
HasWord usual values choice = ((first_of (codes "word") values ≡ None) × (choice ≡ usual))
    ⊎ ((text : Text) × IsValue (codes "word") values text × IsChoice text choice)

-- `--word` has a value that is no choice
abbrev pub HasNoWord : List Row → Type 0
HasNoWord values = (text : Text) × IsValue (codes "word") values text
    × ((choice : WordChoice) → IsChoice text choice → ⊥)

-- how a store is named
abbrev pub store_name : StoreKind → Text
store_name kind.List = codes "list"
store_name kind.Map = codes "map"

-- `--store` names this store, or is left out and stands for the map
abbrev pub HasStore : List Row → StoreKind → Type 0
HasStore values store = ((first_of (codes "store") values ≡ None) × (store ≡ kind.Map))
    ⊎ IsValue (codes "store") values (store_name store)

-- `--store` has a value that names no store
abbrev pub HasNoStore : List Row → Type 0
HasNoStore values = (text : Text) × IsValue (codes "store") values text
    × ((store : StoreKind) → text ≢ store_name store)
