-- How a server is set up before it serves: the calls that lead on, the newest first.
use Rattle.std.specs.Prelude.{◌≡◌, ◌⊎◌, ℕ, List, [], ◌∷◌, ◌++◌, Some, Ok, Err, true, codes, fold}
use Rattle.coap_types.specs.declared.szx.TheConstants.{MAX_SZX as max_szx}
use Rattle.coap_layer.specs.declared.setup.Setup.{Setup}
use Rattle.coap_resource.specs.Content.{Content}
use Rattle.coap_resource.specs.declared.refusal.StoreRefusal.{StoreRefusal}
use Rattle.coap_server.specs.Led.{Led, State}
use Rattle.coap_server.specs.Trace.{Call, Delays, Plains, Sets}
use Rattle.coap_arguments.specs.PathText.{IsPathText}
use Rattle.coap_arguments.specs.declared.orders.Delay.{Delay}
use Rattle.coap_arguments.specs.declared.orders.Hold.{Hold}
use Rattle.coap_arguments.specs.declared.orders.ServeOptions.{ServeOptions}
use Rattle.coap_answers.specs.Ends.{server_limits_after}
use Rattle.coap_serving.specs.ScriptSettings.{AreMade, IsFirstNotMade, limit_by}
use Rattle.coap_serving.specs.declared.setting_up.NotSetUp.{NotSetUp}
use Rattle.coap_serving.specs.declared.setting_up.NotSetUp.TheVariants as notSetUp
use Rattle.coap_wires.specs.declared.word.Origin.{Origin}
use Rattle.coap_scripts.specs.Settings.{Setting}
use Rattle.coap_common.specs.declared.usual.TheConstants.{TEXT_PLAIN as text_plain}

-- at the moment 0 this text is set at this path
abbrev pub Holding : List (List ℕ) → List ℕ → List Call → List Call → Type 0
Holding path body before after = (version : ℕ) × (store : Content)
    × (after ≡ Sets 0 path (Some text_plain) body (Ok version) store ∷ before)

-- the text of a temperature is set
abbrev pub HoldsResource : List Call → List Call → Type 0
HoldsResource before after =
    (path : List (List ℕ)) × IsPathText (codes "temperature") path × Holding path (codes "22.3 C") before after

-- each of these is set, in order
abbrev pub Holds : List Hold → List Call → List Call → Type 0
Holds [] before after = after ≡ before
Holds (hold ∷ holds) before after =
    (between : List Call) × Holding hold.path hold.body.items before between × Holds holds between after

-- .. or refused, for this reason
abbrev pub Refusing : List (List ℕ) → List ℕ → StoreRefusal → List Call → List Call → Type 0
Refusing path body why before after =
    (store : Content) × (after ≡ Sets 0 path (Some text_plain) body (Err why) store ∷ before)

abbrev pub RefusesResource : StoreRefusal → List Call → List Call → Type 0
RefusesResource why before after =
    (path : List (List ℕ)) × IsPathText (codes "temperature") path × Refusing path (codes "22.3 C") why before after

-- one of these is, and those before it were set
abbrev pub RefusesOne : List Hold → StoreRefusal → List Call → List Call → Type 0
RefusesOne holds why before after =
    (held : List Hold) × (hold : Hold) × (rest : List Hold) × (holds ≡ held ++ hold ∷ rest) × (between : List Call)
    × Holds held before between × Refusing hold.path hold.body.items why between after

-- the store doesn't take the resource, or something else that the words name
abbrev pub IsNotHeld : ServeOptions → StoreRefusal → List Call → List Call → Type 0
IsNotHeld options why before after = RefusesResource why before after
    ⊎ ((own : List Call) × HoldsResource before own × RefusesOne options.holds.items why own after)

-- the requests of a path wait
abbrev pub with_delay : List Call → Delay → List Call
with_delay before delay = Delays delay.path delay.ms true ∷ before

-- the observers of a path are told in Non-confirmable messages
abbrev pub with_plain : List Call → List (List ℕ) → List Call
with_plain before path = Plains path true ∷ before

-- the server is set up as the words say
abbrev pub SetsUp : ServeOptions → List Call → List Call → Type 0
SetsUp options before after =
    (own : List Call) × (held : List Call) × HoldsResource before own × Holds options.holds.items own held
    × (after ≡ fold with_plain (fold with_delay held options.delays.items) options.plains.items)

-- with this word, and as many messages remembered as the words say
abbrev pub served_setup : ℕ → ServeOptions → Setup
served_setup word options = record { word = word; remembered = options.remembered }

-- a server that began so, takes bodies up to the limit that its script says, or else the words, and was set up as the
-- words say, and then as the settings of the script do; its versions begin after its base
abbrev pub IsServerAfter : Origin → ServeOptions → List Setting → State → Type 0
IsServerAfter origin options settings s =
    (set : List Call) × (after : List Call) × SetsUp options [] set × AreMade settings set after
    × Led (server_limits_after (limit_by options.limit settings) origin.base) max_szx
    (served_setup origin.word options) after s

-- it isn't set up since its store refuses something that the words name, or it doesn't take what a line of its script
-- says: then this holds of the calls that led to it
abbrev pub IsRefused : (List Call → Type 0) → ServeOptions → List Setting → List Call → NotSetUp → Type 0
IsRefused led options settings before (notSetUp.Refused why) =
    (after : List Call) × IsNotHeld options why before after × led after
IsRefused led options settings before (notSetUp.Line bad) =
    (set : List Call) × (after : List Call) × SetsUp options before set × IsFirstNotMade settings bad.0 set after
    × led after

-- .. of a server that began so
abbrev pub IsRefusedAfter : Origin → ServeOptions → List Setting → NotSetUp → Type 0
IsRefusedAfter origin options settings why =
    (s : State) × IsRefused
    (λ after. Led (server_limits_after (limit_by options.limit settings) origin.base) max_szx
    (served_setup origin.word options) after s) options settings [] why

-- .. where the first version is 1
abbrev pub IsServer : ℕ → ServeOptions → List Setting → State → Type 0
IsServer word options settings s = IsServerAfter (record { word = word; base = 0 }) options settings s
