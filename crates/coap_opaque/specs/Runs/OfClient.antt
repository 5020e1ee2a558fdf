-- A run of a client: what each call is handed, what it answers, and what that is with other endpoints in the place of
-- theirs (RFC 7252, section 5).
use Rattle.std.specs.Prelude.{◌≡◌, ℕ, Bool, Option, List, [], ◌∷◌, map, Result}
use Rattle.std.specs.Option.{option_map}
use Rattle.coap_types.specs.declared.endpoint.Endpoint.{Endpoint}
use Rattle.coap_layer.specs.Trace.{Packet}
use Rattle.coap_layer.specs.declared.setup.Setup.{Setup}
use Rattle.coap_block.specs.Sizes.{Sizes}
use Rattle.coap_client.specs.Led.{State, Step, fresh_state}
use Rattle.coap_client.specs.Trace as T
use Rattle.coap_client.specs.Trace.{Call, Reported, Request, Requested}
use Rattle.coap_client.specs.declared.refusals.CallRefusal.{CallRefusal}
use Rattle.coap_client.specs.declared.refusals.CancelRefusal.{CancelRefusal}
use Rattle.coap_opaque.specs.Renaming.OfClient as C
use Rattle.coap_opaque.specs.Renaming.OfLayer as L

-- what a call is handed
pub data Input : Type 0 where
  Calls : (now : ℕ) (request : Request) → Input
  Observes : (now : ℕ) (path : List (List ℕ)) → Input
  Cancels : (now number : ℕ) → Input
  Forgets : (number : ℕ) → Input
  Feeds : (now : ℕ) (from : Endpoint) (bytes : List ℕ) (word : ℕ) → Input
  Ticks : (now word : ℕ) → Input
  NextOut : Input
  NextReport : Input
  Asked : Input

-- what it answers: the number of a call or an observation; why none is cancelled; yes or no; a datagram; a report; the
-- request that was sent; or nothing
pub data Output : Type 0 where
  Numbers : (answer : Result ℕ CallRefusal) → Output
  Cancelled : (answer : Option CancelRefusal) → Output
  Says : (answer : Bool) → Output
  Gives : (answer : Option Packet) → Output
  Reports : (answer : Option Reported) → Output
  Tells : (answer : Option Requested) → Output
  Nothing : Output

abbrev pub input_of : Call → Input
input_of (T.Calls now r answer) = Calls now r
input_of (T.Observes now path answer) = Observes now path
input_of (T.Cancels now number answer) = Cancels now number
input_of (T.Forgets number kept answer) = Forgets number
input_of (T.Feeds now from bytes word up settled event sent token kept) = Feeds now from bytes word
input_of (T.Ticks now word below turn sent token kept answer) = Ticks now word
input_of (T.NextOut answer) = NextOut
input_of (T.NextReport answer) = NextReport
input_of (T.Asked answer) = Asked

abbrev pub output_of : Call → Output
output_of (T.Calls now r answer) = Numbers answer
output_of (T.Observes now path answer) = Numbers answer
output_of (T.Cancels now number answer) = Cancelled answer
output_of (T.Forgets number kept answer) = Says answer
output_of (T.Feeds now from bytes word up settled event sent token kept) = Nothing
output_of (T.Ticks now word below turn sent token kept answer) = Says answer
output_of (T.NextOut answer) = Gives answer
output_of (T.NextReport answer) = Reports answer
output_of (T.Asked answer) = Tells answer

-- the calls lead from the one state to the other, the newest first
abbrev pub Runs : State → List Call → State → Type 0
Runs old [] new = new ≡ old
Runs old (c ∷ earlier) new = (between : State) × Runs old earlier between × Step between c new

module _ (rename : Endpoint → Endpoint) where
  abbrev pub input : Input → Input
  input (Feeds now from bytes word) = Feeds now (rename from) bytes word
  input other = other

  abbrev pub output : Output → Output
  output (Gives answer) = Gives (option_map (L.packet rename) answer)
  output other = other

  -- Two clients begin alike, but that the second has another endpoint for the server of the first. Where they are
  -- handed the same, the second with other endpoints in the place of theirs, it answers the same, and is left the same,
  -- with these in their place.
  abbrev pub RunsTheSame : Endpoint → Sizes → Setup → Type 0
  RunsTheSame server sizes setup =
      (t u : List Call) (s n : State) → Runs (fresh_state server sizes setup) t s
      → Runs (fresh_state (rename server) sizes setup) u n
      → map input_of u ≡ map input (map input_of t)
      → (map output_of u ≡ map output (map output_of t)) × (n ≡ C.state rename s)
