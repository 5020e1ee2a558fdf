-- A run of a server: what each call is handed, what it answers, and what that is with other endpoints in the place of
-- theirs (RFC 7252, section 5).
use Rattle.std.specs.Prelude.{◌≡◌, ℕ, Bool, Option, List, [], ◌∷◌, map, Result}
use Rattle.std.specs.Option.{option_map}
use Rattle.coap_types.specs.declared.endpoint.Endpoint.{Endpoint}
use Rattle.coap_layer.specs.Trace.{Packet}
use Rattle.coap_layer.specs.declared.setup.Setup.{Setup}
use Rattle.coap_resource.specs.Content.{Held}
use Rattle.coap_resource.specs.Limits.{Limits}
use Rattle.coap_resource.specs.declared.refusal.StoreRefusal.{StoreRefusal}
use Rattle.coap_server.specs.Led.{State, Step, fresh_state}
use Rattle.coap_server.specs.Trace as T
use Rattle.coap_server.specs.Trace.{Applied, Call}
use Rattle.coap_opaque.specs.Renaming.OfLayer as L
use Rattle.coap_opaque.specs.Renaming.OfServer as S

-- what a call is handed
pub data Input : Type 0 where
  Sets : (now : ℕ) (path : List (List ℕ)) (format : Option ℕ) (body : List ℕ) → Input
  Removes : (now : ℕ) (path : List (List ℕ)) → Input
  Delays : (path : List (List ℕ)) (ms : ℕ) → Input
  Plains : (path : List (List ℕ)) → Input
  Feeds : (now : ℕ) (from : Endpoint) (bytes : List ℕ) (word : ℕ) → Input
  Refuses : (now : ℕ) (from : Endpoint) (bytes : List ℕ) (word code : ℕ) → Input
  Ticks : (now word : ℕ) → Input
  NextOut : Input
  Gets : (path : List (List ℕ)) → Input
  TellsApplied : Input
  Forgets : (peer : Endpoint) → Input

-- what it answers: whether a change was made, and which version; whether something was removed; yes or no; a datagram;
-- what a path holds; what was applied; or nothing
pub data Output : Type 0 where
  Changed : (answer : Result ℕ StoreRefusal) → Output
  Removed : (answer : Result Bool StoreRefusal) → Output
  Says : (answer : Bool) → Output
  Gives : (answer : Option Packet) → Output
  Holds : (answer : Option Held) → Output
  Tells : (answer : List Applied) → Output
  Nothing : Output

abbrev pub input_of : Call → Input
input_of (T.Sets now path format body answer left) = Sets now path format body
input_of (T.Removes now path answer left) = Removes now path
input_of (T.Delays path ms answer) = Delays path ms
input_of (T.Plains path answer) = Plains path
input_of (T.Feeds now from bytes word up came h below) = Feeds now from bytes word
input_of (T.Refuses now from bytes word code up p response below) = Refuses now from bytes word code
input_of (T.Ticks now word below room due passed h id answer) = Ticks now word
input_of (T.NextOut answer) = NextOut
input_of (T.Gets path answer) = Gets path
input_of (T.TellsApplied answer) = TellsApplied
input_of (T.Forgets peer) = Forgets peer

abbrev pub output_of : Call → Output
output_of (T.Sets now path format body answer left) = Changed answer
output_of (T.Removes now path answer left) = Removed answer
output_of (T.Delays path ms answer) = Says answer
output_of (T.Plains path answer) = Says answer
output_of (T.Feeds now from bytes word up came h below) = Nothing
output_of (T.Refuses now from bytes word code up p response below) = Nothing
output_of (T.Ticks now word below room due passed h id answer) = Says answer
output_of (T.NextOut answer) = Gives answer
output_of (T.Gets path answer) = Holds answer
output_of (T.TellsApplied answer) = Tells answer
output_of (T.Forgets peer) = Nothing

-- the calls lead from the one state to the other, the newest first
abbrev pub Runs : State → List Call → State → Type 0
Runs old [] new = new ≡ old
Runs old (c ∷ earlier) new = (between : State) × Runs old earlier between × Step between c new

module _ (rename : Endpoint → Endpoint) where
  abbrev pub input : Input → Input
  input (Feeds now from bytes word) = Feeds now (rename from) bytes word
  input (Refuses now from bytes word code) = Refuses now (rename from) bytes word code
  input (Forgets peer) = Forgets (rename peer)
  input other = other

  abbrev pub output : Output → Output
  output (Gives answer) = Gives (option_map (L.packet rename) answer)
  output (Tells answer) = Tells (map (S.applied rename) answer)
  output other = other

  -- Two servers that begin alike are handed the same, the second with other endpoints in the place of theirs: it
  -- answers the same, and is left the same, with these in their place.
  abbrev pub RunsTheSame : Limits → ℕ → Setup → Type 0
  RunsTheSame limits szx setup =
      (t u : List Call) (s n : State) → Runs (fresh_state limits szx setup) t s
      → Runs (fresh_state limits szx setup) u n
      → map input_of u ≡ map input (map input_of t)
      → (map output_of u ≡ map output (map output_of t)) × (n ≡ S.state rename s)
