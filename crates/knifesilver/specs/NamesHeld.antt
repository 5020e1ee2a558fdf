-- What a handle of names holds, and what a call of it did.
use Rattle.std.specs.Prelude.{◌≤◌, ℕ, Bool, true, false, ⊤, List, Option, Some, None}
use Rattle.coap_names.specs.Led.{Led}
use Rattle.coap_names.specs.Tables.{Setup, State}
use Rattle.coap_names.specs.Trace.{Entry}
use Rattle.coap_names.specs.declared.numbering.Numbering.{Numbering}
use Rattle.coap_names.specs.declared.numbering.Numbering.TheVariants.{Whole, ThisNetwork}
use Rattle.coap_names.specs.declared.places.TheConstants.{MAX_PLACES as max_places}
use Rattle.knifesilver.specs.declared.held.Held.{Held}
use Rattle.knifesilver.specs.declared.held.Held.TheVariants.{Server, Client, Names}
use Rattle.knifesilver.specs.declared.names.peer_key.PeerKey.{PeerKey}
use Rattle.knifesilver.specs.PeerKeys.{same_key}

-- a table has so many places
abbrev pub HasPlaces : ℕ → Type 0
HasPlaces places = (1 ≤ places) × (places ≤ max_places)

-- all names are given, or those of "this network" alone (RFC 1122, section 3.2.1.3)
abbrev pub numbering_of : Bool → Numbering
numbering_of true = ThisNetwork
numbering_of false = Whole

-- it is a table
abbrev pub IsNames : Held → Type 0
IsNames (Server s) = ⊥
IsNames (Client c) = ⊥
IsNames (Names t) = ⊤

abbrev pub HoldsNames : Option Held → Type 0
HoldsNames None = ⊥
HoldsNames (Some held) = IsNames held

-- it is a table of which this holds
abbrev pub IsNamesIn : (State PeerKey → Type 0) → Held → Type 0
IsNamesIn P (Server s) = ⊥
IsNamesIn P (Client c) = ⊥
IsNamesIn P (Names t) = P t

abbrev pub HoldsNamesIn : (State PeerKey → Type 0) → Option Held → Type 0
HoldsNamesIn P None = ⊥
HoldsNamesIn P (Some held) = IsNamesIn P held

-- these calls can leave a table as what is held
abbrev pub HoldsLed : Setup → List (Entry PeerKey) → Option Held → Type 0
HoldsLed setup t held = HoldsNamesIn (Led same_key setup t) held

-- this holds of what a table was and is
abbrev pub Goes : (State PeerKey → State PeerKey → Type 0) → Option Held → Option Held → Type 0
Goes P old new = HoldsNamesIn (λ s. HoldsNamesIn (λ t. P s t) new) old
