-- The calls of a table of names, as C is answered.
use Rattle.std.specs.Prelude.{◌≡◌, ℕ, ℤ, pos, max, Bool, is_some, IsSome, List, Option, Some, None}
use Rattle.std.specs.Map.{lookup}
use Rattle.coap_types.specs.declared.endpoint.Endpoint.{Endpoint}
use Rattle.coap_names.specs.Led.{Leads}
use Rattle.coap_names.specs.Steps.{Step}
use Rattle.coap_names.specs.Tables.{State, keyed, named}
use Rattle.coap_names.specs.Trace.{Answer, Call, NameOf, Sent, Hold, Release, Retire, Named, Full, Spent, Did}
use Rattle.knifesilver.specs.declared.crossing.KsAddress.{KsAddress}
use Rattle.knifesilver.specs.declared.names.peer_key.PeerKey.{PeerKey}
use Rattle.knifesilver.specs.Answers.{told}
use Rattle.knifesilver.specs.PeerKeys.{KeyAnswers, same_key}

-- One call was made at that moment, and answered so: it is a step of the table, and whatever led to the one leads, with
-- this call, to the other.
pub record IsCall (at : ℕ) (call : Call PeerKey) (answer : Answer) (old new : State PeerKey) : Type 0 where
  pub step : Step same_key old at call answer new
  pub leads : Leads same_key old at call answer new

-- the answer is 0, and the name is told; or 96, as each place is taken; or 97, as all names are used up
abbrev pub NameAnswers : ℤ → KsAddress → Answer → Type 0
NameAnswers answer told (Named name) = (answer ≡ pos 0) × (told ≡ record { ip = name.ip; port = name.port })
NameAnswers answer told Full = answer ≡ pos 96
NameAnswers answer told Spent = answer ≡ pos 97
NameAnswers answer told (Did done) = ⊥

-- a datagram came from the peer with this key, at this moment, or at the table's last one if that is later
abbrev pub IsNamed : ℕ → PeerKey → ℤ → KsAddress → State PeerKey → State PeerKey → Type 0
IsNamed now key answer name old new =
    (did : Answer) × NameAnswers answer name did × IsCall (max old.clock now) (NameOf key) did old new

-- the key has no name, and the answer is 0; or the answer is 1, and its name is told
abbrev pub FoundAnswers : ℤ → KsAddress → Option Endpoint → Type 0
FoundAnswers answer told None = answer ≡ pos 0
FoundAnswers answer told (Some name) = (answer ≡ pos 1) × (told ≡ record { ip = name.ip; port = name.port })

-- what is told of a key is its name
abbrev pub TellsName : PeerKey → ℤ → KsAddress → State PeerKey → Type 0
TellsName key answer name s = FoundAnswers answer name (named same_key s key)

-- what is told of a name is its key
abbrev pub TellsKey : Endpoint → ℤ → (room : List ℕ) (len : ℕ) → State PeerKey → Type 0
TellsKey name answer room len s = KeyAnswers answer room len (keyed s name)

-- a datagram goes to the peer with this name, whose key is told
abbrev pub IsSent : ℕ → Endpoint → ℤ → (room : List ℕ) (len : ℕ) → State PeerKey → State PeerKey → Type 0
IsSent now name answer room len old new = TellsKey name answer room len old
    × IsCall (max old.clock now) (Sent name) (Did (is_some (keyed old name))) old new

-- a name is held
abbrev pub IsHeld : Endpoint → ℤ → State PeerKey → State PeerKey → Type 0
IsHeld name answer old new = (done : Bool) × (answer ≡ told done) × IsCall old.clock (Hold name) (Did done) old new

-- .. released
abbrev pub IsReleased : ℕ → Endpoint → ℤ → State PeerKey → State PeerKey → Type 0
IsReleased now name answer old new =
    (done : Bool) × (answer ≡ told done) × IsCall (max old.clock now) (Release name) (Did done) old new

-- .. retired
abbrev pub IsRetired : Endpoint → ℤ → State PeerKey → State PeerKey → Type 0
IsRetired name answer old new =
    (done : Bool) × (answer ≡ told done) × IsCall old.clock (Retire name) (Did done) old new

-- the name is held, or nobody's
abbrev pub NeedsNoHold : Endpoint → State PeerKey → Type 0
NeedsNoHold name s = (key : PeerKey) → keyed s name ≡ Some key → lookup (same_key key) s.idle ≡ None

-- .. not held, or nobody's
abbrev pub NeedsNoRelease : Endpoint → State PeerKey → Type 0
NeedsNoRelease name s = (key : PeerKey) → keyed s name ≡ Some key → IsSome (lookup (same_key key) s.idle)
