-- What a handle of a server holds, and what a call of it did.
use Rattle.std.specs.Prelude.{◌≡◌, ℕ, ⊤, List, ◌∷◌, Option, Some, None}
use Rattle.coap_resource.specs.Entries.{content_of}
use Rattle.coap_resource.specs.Limits.{Limits}
use Rattle.coap_layer.specs.declared.setup.Setup.{Setup}
use Rattle.coap_server.specs.Led.{Led, State}
use Rattle.coap_server.specs.Object.Shown.{state_of}
use Rattle.coap_server.specs.Trace.{Call}
use Rattle.coap_journal.specs.Input.{Input}
use Rattle.coap_noted.specs.Notes.{Note, noted_with}
use Rattle.knifesilver.specs.declared.held.Held.{Held}
use Rattle.knifesilver.specs.declared.held.Held.TheVariants.{Server, Client, Names}

-- it is a server
abbrev pub IsServer : Held → Type 0
IsServer (Server s) = ⊤
IsServer (Client c) = ⊥
IsServer (Names t) = ⊥

abbrev pub HoldsServer : Option Held → Type 0
HoldsServer None = ⊥
HoldsServer (Some held) = IsServer held

-- it is a server in a state of which this holds
abbrev pub IsServerIn : (State → Type 0) → Held → Type 0
IsServerIn P (Server s) = P (state_of content_of s.server)
IsServerIn P (Client c) = ⊥
IsServerIn P (Names t) = ⊥

abbrev pub HoldsServerIn : (State → Type 0) → Option Held → Type 0
HoldsServerIn P None = ⊥
HoldsServerIn P (Some held) = IsServerIn P held

-- these calls can leave a server as what is held (RFC 7252, section 5)
abbrev pub HoldsLed : Limits → (szx : ℕ) (setup : Setup) → List Call → Option Held → Type 0
HoldsLed limits szx setup t held = HoldsServerIn (Led limits szx setup t) held

-- One call like this was made, of the server that was held: whatever led to it before leads, with that call, to what is
-- held then.
abbrev pub Made : (Call → Type 0) → Option Held → Option Held → Type 0
Made like old new = (limits : Limits) (szx : ℕ) (setup : Setup) (t : List Call) → HoldsLed limits szx setup t old
    → (call : Call) × like call × HoldsLed limits szx setup (call ∷ t) new

-- the notes of what it took, where these are kept
abbrev pub notes_in : Option Held → Option Note
notes_in None = None
notes_in (Some (Server s)) = s.notes
notes_in (Some (Client c)) = None
notes_in (Some (Names t)) = None

-- this input, which was handed in at this moment, is noted, where notes are kept
abbrev pub IsNoted : Input → ℕ → Option Held → Option Held → Type 0
IsNoted input now old new = notes_in new ≡ noted_with input now (notes_in old)
