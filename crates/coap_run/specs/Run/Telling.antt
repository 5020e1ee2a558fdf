-- How the lines of a call of the server are read from it: from what it says that it applied last, and from what its
-- paths hold.
use Rattle.std.specs.Prelude.{◌≡◌, ℕ, ◌==◌, Bool, true, false, Option, List, [], ◌∷◌, if◌then◌else◌}
use Rattle.coap_resource.specs.Content.{Content, Held}
use Rattle.coap_server.specs.Object.Shown.{state_of}
use Rattle.coap_server.specs.Led.{Step}
use Rattle.coap_server.specs.Trace.{Applied, Call}
use Rattle.coap_run.specs.declared.running.ends.ServerEnd.{ServerEnd}
use Rattle.coap_run.specs.Run.Log.{Line, Applies, Changes, call_for}
use Rattle.coap_record.specs.declared.addresses.Addresses.{Addresses}

abbrev pub change_told : List (List ℕ) → ℕ → Option Held → List Line
change_told path version held = Changes (record { path = path; version = version; held = held }) ∷ []

-- a version of 0 says that nothing was changed
abbrev pub version_after : ℕ → ℕ → ℕ
version_after version before = if version == 0 then before else version

abbrev pub made_told : List (List ℕ) → ℕ → Option Held → List Line
made_told path version held = if version == 0 then [] else change_told path version held

abbrev pub applied_told : Addresses → (List ℕ → Option ℕ) → List Applied → (List (List ℕ) → Option Held) → List Line
applied_told addresses sender [] holds = []
applied_told addresses sender (a ∷ rest) holds = Applies (call_for addresses sender a) a ∷ made_told a.path a.version
    (holds a.path)

abbrev pub version_told : List Applied → ℕ → ℕ
version_told [] before = before
version_told (a ∷ rest) before = version_after a.version before

-- a datagram or a tick, of which nothing is told yet: one call, and none where it met want of memory
abbrev pub IsFed : {K A : Type 0} → (K → Content) → (Call → Type 0) → Bool → ServerEnd K A → ServerEnd K A → Type 0
IsFed content Is true old new = new ≡ old
IsFed content Is false old new = (c : Call) × Is c × Step (state_of content old.server) c (state_of content new.server)
    × (new.version ≡ old.version)
