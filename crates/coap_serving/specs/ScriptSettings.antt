-- How a script sets a server up: the calls that lead on, the newest first (RFC 7252, section 5.8.3; RFC 7641, section
-- 3).
use Rattle.std.specs.Prelude.{◌≡◌, ◌≤◌, ◌+◌, ◌++◌, ⊤, ℕ, Bool, List, [], ◌∷◌, Some, None, Option, Ok, Err, true, false}
use Rattle.std.specs.Prelude.{fold, length}
use Rattle.std.specs.Borrow.{Bor}
use Rattle.coap_resource.specs.Content.{Content}
use Rattle.coap_resource.specs.declared.refusal.StoreRefusal.{StoreRefusal}
use Rattle.coap_server.specs.Trace.{Call, Delays, Plains, Sets}
use Rattle.coap_scripts.specs.Script.{EachOf, IsFirstBad, lines_of}
use Rattle.coap_scripts.specs.Settings.{Setting, Nothing, Hold, Delay, Plain, Limit, SaysSetting}
use Rattle.coap_serving.specs.declared.setting_up.NotSetUp.{NotSetUp}
use Rattle.coap_serving.specs.declared.setting_up.NotSetUp.TheVariants as notSetUp

-- at the moment 0 this body is set at this path, with its format
abbrev pub HoldsBody : List (List ℕ) → ℕ → List ℕ → List Call → List Call → Type 0
HoldsBody path format body before after = (version : ℕ) × (store : Content)
    × (after ≡ Sets 0 path (Some format) body (Ok version) store ∷ before)

-- the server is as the setting says; that of a limit is made with it
abbrev pub IsMade : Setting → List Call → List Call → Type 0
IsMade Nothing before after = after ≡ before
IsMade (Hold path format body) before after = HoldsBody path format body before after
IsMade (Delay path ms) before after = after ≡ Delays path ms true ∷ before
IsMade (Plain path) before after = after ≡ Plains path true ∷ before
IsMade (Limit most) before after = after ≡ before

-- .. or that body is refused there
abbrev pub RefusesBody : List (List ℕ) → ℕ → List ℕ → List Call → List Call → Type 0
RefusesBody path format body before after = (why : StoreRefusal) × (store : Content)
    × (after ≡ Sets 0 path (Some format) body (Err why) store ∷ before)

abbrev pub HoldsIf : Bool → List (List ℕ) → ℕ → List ℕ → List Call → List Call → Type 0
HoldsIf true path format body before after = HoldsBody path format body before after
HoldsIf false path format body before after = RefusesBody path format body before after

-- the server doesn't take what the setting says: its store refuses that, or there is no place for one more such path
abbrev pub IsNotMade : Setting → List Call → List Call → Type 0
IsNotMade Nothing before after = ⊥
IsNotMade (Hold path format body) before after = RefusesBody path format body before after
IsNotMade (Delay path ms) before after = after ≡ Delays path ms false ∷ before
IsNotMade (Plain path) before after = after ≡ Plains path false ∷ before
IsNotMade (Limit most) before after = ⊥

abbrev pub IsMadeIf : Bool → Setting → List Call → List Call → Type 0
IsMadeIf true setting before after = IsMade setting before after
IsMadeIf false setting before after = IsNotMade setting before after

-- it is as each of them says, in order
abbrev pub AreMade : List Setting → List Call → List Call → Type 0
AreMade [] before after = after ≡ before
AreMade (s ∷ settings) before after =
    (between : List Call) × IsMade s before between × AreMade settings between after

-- it doesn't take the one of this number, from 1, and is as each before that says
abbrev pub IsFirstNotMade : List Setting → ℕ → List Call → List Call → Type 0
IsFirstNotMade settings number before after =
    (made : List Setting) × (s : Setting) × (rest : List Setting) × (settings ≡ made ++ s ∷ rest)
    × (number ≡ length made + 1) × (between : List Call) × AreMade made before between × IsNotMade s between after

-- the limit is the last that is said
abbrev pub limit_with : ℕ → Setting → ℕ
limit_with limit (Limit most) = most
limit_with limit Nothing = limit
limit_with limit (Hold path format body) = limit
limit_with limit (Delay path ms) = limit
limit_with limit (Plain path) = limit

abbrev pub limit_by : ℕ → List Setting → ℕ
limit_by limit settings = fold limit_with limit settings

-- The settings of the script in a file, which may have such texts; where none is named, there are none.
abbrev pub AreOfScriptIn : (has : List ℕ → List ℕ → Type 0) → Option (Bor (List ℕ)) → List Setting → Type 0
AreOfScriptIn has None settings = settings ≡ []
AreOfScriptIn has (Some name) settings =
    (text : List ℕ) × has name.now text × EachOf SaysSetting (lines_of text) settings

-- .. or the first line of it that says none, by its number, from 1
abbrev pub IsBadInScript : (has : List ℕ → List ℕ → Type 0) → Option (Bor (List ℕ)) → ℕ → Type 0
IsBadInScript has None number = ⊥
IsBadInScript has (Some name) number =
    (text : List ℕ) × has name.now text × IsFirstBad SaysSetting (lines_of text) number

-- a file may have any text
abbrev pub AnyText : List ℕ → List ℕ → Type 0
AnyText name text = ⊤

-- a line that is named is one of those that the settings have, by its number, from 1
abbrev pub IsOfSettings : List Setting → NotSetUp → Type 0
IsOfSettings settings (notSetUp.Refused why) = ⊤
IsOfSettings settings (notSetUp.Line bad) = (1 ≤ bad.0) × (bad.0 ≤ length settings)
