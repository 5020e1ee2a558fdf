-- How a server is set up: `--address ADDRESS`, and `--hold PATH=BODY`, `--delay PATH=MS` and `--plain PATH`, each again
-- and again.
use Rattle.std.specs.Prelude.{ℕ, Bool, List, Option, Some, None, ◌≡◌, ◌<◌, ◌≤◌, ◌^◌, ◌==◌, ◌⊎◌, codes, length}
use Rattle.std.specs.Prelude.{if◌then◌else◌, is_some}
use Rattle.std.specs.List.{after_first, before_first, position_or_len}
use Rattle.clap.specs.Words.{Row, Text, first_of}
use Rattle.coap_types.specs.Path.{HoldsAtMost}
use Rattle.coap_types.specs.declared.path.TheConstants.{MAX_SEGMENT_LEN as max_segment_len}
use Rattle.coap_types.specs.declared.path.TheConstants.{MAX_SEGMENTS as max_segments}
use Rattle.coap_arguments.specs.Addresses.{HasAddress}
use Rattle.coap_arguments.specs.Asking.{HasFlag}
use Rattle.coap_arguments.specs.Numbers.{IsNumber}
use Rattle.coap_arguments.specs.PathText.{IsPathText}
use Rattle.coap_arguments.specs.Plains.{HasPlains}
use Rattle.coap_arguments.specs.Texts.{AreTexts, SomeSaysNone, texts_of}
use Rattle.coap_arguments.specs.Values.{HasLimit, HasRemembered, HasWord, IsValue}
use Rattle.coap_arguments.specs.declared.orders.Delay.{Delay}
use Rattle.coap_arguments.specs.declared.orders.Hold.{Hold}
use Rattle.coap_arguments.specs.declared.orders.Journal.{Journal}
use Rattle.coap_arguments.specs.declared.orders.ServeOptions.{ServeOptions}
use Rattle.coap_arguments.specs.declared.refusals.SettingRefusal.{SettingRefusal}
use Rattle.coap_arguments.specs.declared.refusals.SettingRefusal.TheVariants as setting
use Rattle.coap_arguments.specs.declared.orders.TheConstants.{DEFAULT_WORD as default_word, FOREVER as forever}
use Rattle.coap_arguments.specs.declared.orders.TheConstants.{MAX_DELAYS as max_delays}
use Rattle.coap_arguments.specs.declared.orders.WordChoice.{WordChoice}
use Rattle.coap_arguments.specs.declared.orders.WordChoice.TheVariants.{Given, Random}

-- the argument that is refused so, by its name in clap
abbrev pub setting_argument_of : SettingRefusal → Text
setting_argument_of setting.Hold = codes "hold"
setting_argument_of setting.Delay = codes "delay"

abbrev pub is_equals : ℕ → Bool
is_equals b = b == 61

-- the text is two parts with a `=` between them, the first of which has none; the first says this path
abbrev pub IsOfPath : Text → List (List ℕ) → Type 0
IsOfPath text path = (position_or_len is_equals text < length text) × IsPathText (before_first is_equals text) path
    × HoldsAtMost max_segments max_segment_len path

-- what the second part says
abbrev pub told_in : Text → Text
told_in text = after_first is_equals text

-- the text says that this is held
abbrev pub IsHold : Text → Hold → Type 0
IsHold text hold = IsOfPath text hold.path × (hold.body.items ≡ told_in text)

-- the text says that requests wait so long
abbrev pub IsDelay : Text → Delay → Type 0
IsDelay text delay = IsOfPath text delay.path × IsNumber (told_in text) delay.ms × (delay.ms < 2 ^ 64)

-- the arguments say this, in order
abbrev pub HasHolds : List Row → List Hold → Type 0
HasHolds values holds = AreTexts IsHold (texts_of (codes "hold") values) holds

abbrev pub HasDelays : List Row → List Delay → Type 0
HasDelays values delays = AreTexts IsDelay (texts_of (codes "delay") values) delays × (length delays ≤ max_delays)

-- a value of the argument says nothing, or there are too many
abbrev pub HasNoSetting : SettingRefusal → List Row → Type 0
HasNoSetting setting.Hold values = SomeSaysNone IsHold (texts_of (codes "hold") values)
HasNoSetting setting.Delay values = (max_delays < length (texts_of (codes "delay") values))
    ⊎ SomeSaysNone IsDelay (texts_of (codes "delay") values)

-- the word where none is given: a server that serves for ever begins with a random one
abbrev pub serving_word : ℕ → WordChoice
serving_word count = if count == forever then Random else Given default_word

pub record HasServeOptions (usual : WordChoice) (values : List Row) (options : ServeOptions) : Type 0 where
  pub address : HasAddress values options.address
  pub holds : HasHolds values options.holds.items
  pub delays : HasDelays values options.delays.items
  pub plains : HasPlains values options.plains.items
  pub trace : HasFlag (codes "trace") values options.trace
  pub changes : HasFlag (codes "changes") values options.changes
  pub json : HasFlag (codes "json") values options.json
  pub word : HasWord usual values options.word
  pub limit : HasLimit values options.limit
  pub remembered : HasRemembered values options.remembered

-- `--journal` names this file, and these words are said beside it
pub record IsJournal (values : List Row) (journal : Journal) : Type 0 where
  pub file : IsValue (codes "journal") values journal.file.now
  pub word : journal.says_word ≡ is_some (first_of (codes "word") values)
  pub limit : journal.says_limit ≡ is_some (first_of (codes "limit") values)
  pub remembered : journal.says_remembered ≡ is_some (first_of (codes "remember") values)
  pub renews : HasFlag (codes "renew") values journal.renews

abbrev pub HasJournal : List Row → Option Journal → Type 0
HasJournal values None = first_of (codes "journal") values ≡ None
HasJournal values (Some journal) = IsJournal values journal
