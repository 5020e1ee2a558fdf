-- What a script says: an event a line.
use Rattle.std.specs.Prelude.{◌≡◌, ◌≢◌, ◌<◌, ◌^◌, [], ◌∷◌, ◌==◌, ◌++◌, ◌+◌, ℕ, cond, false, length, List, None, Some}
use Rattle.std.specs.Prelude.{Ok}
use Rattle.std.specs.List.{onto_first}
use Rattle.hex.specs.Hex.{decode_of}
use Rattle.coap_types.specs.declared.endpoint.Endpoint.{Endpoint}
use Rattle.coap_types.specs.declared.request.Method.{Method}
use Rattle.coap_types.specs.declared.request.Method.TheVariants.{Get, Post, Put, Delete}
use Rattle.coap_types.specs.Path.{HoldsAtMost}
use Rattle.coap_types.specs.declared.path.TheConstants.{MAX_SEGMENT_LEN as max_segment_len}
use Rattle.coap_types.specs.declared.path.TheConstants.{MAX_SEGMENTS as max_segments}
use Rattle.coap_client.specs.Trace.{Request}
use Rattle.coap_record.specs.Events.{Event, What, Calls, Observes, Cancels, Forgets, Sets, Removes, TickClient}
use Rattle.coap_record.specs.Events.{TickServer, Deliver, StrangerToClient, StrangerToServer, localhost}
use Rattle.coap_run.specs.declared.running.event.Side.{Side}
use Rattle.coap_run.specs.declared.running.event.Side.TheVariants.{Client, Server}
use Rattle.coap_arguments.specs.PathText.{IsPathText}
use Rattle.coap_scripts.specs.ScriptWords.{IsCut, IsWord, SaysNumber, kind_word, method_word, side_word}
use Rattle.coap_scripts.specs.declared.script.words.Kind.TheVariants as kind
use Rattle.coap_common.specs.declared.usual.TheConstants.{TEXT_PLAIN as text_plain}

-- the word is a path, which holds no more than a path may
abbrev pub NamesPath : List ℕ → List (List ℕ) → Type 0
NamesPath word path = IsPathText word path × HoldsAtMost max_segments max_segment_len path

-- a path that ends the line
abbrev pub SaysPath : List ℕ → List (List ℕ) → Type 0
SaysPath line path = IsWord line × NamesPath line path

-- a word, which is a path, and the bytes behind the space after it
abbrev pub SaysPathAndBody : List ℕ → List (List ℕ) → List ℕ → Type 0
SaysPathAndBody line path body = (word : List ℕ) × IsCut 32 line word body × (word ≢ []) × NamesPath word path

-- a request whose only option is its path
abbrev pub plain_request : Method → List (List ℕ) → List ℕ → Request
plain_request method path body =
    record {
      method = method;
      path = path;
      format = None;
      body = body;
      etags = [];
      if_match = [];
      if_none_match = false;
      accept = None;
    }

-- the line begins with this word and a space, and what comes after them is such
abbrev pub Begins : List ℕ → (List ℕ → Type 0) → List ℕ → Type 0
Begins word Is line = (rest : List ℕ) × IsCut 32 line word rest × Is rest

-- after its method a request has a path, and a body where the method has one
abbrev pub SaysParts : Method → List (List ℕ) → List ℕ → List ℕ → Type 0
SaysParts Get path body line = SaysPath line path × (body ≡ [])
SaysParts Post path body line = SaysPathAndBody line path body
SaysParts Put path body line = SaysPathAndBody line path body
SaysParts Delete path body line = SaysPath line path × (body ≡ [])

abbrev pub SaysRequest : Request → List ℕ → Type 0
SaysRequest r line = (method : Method) × (path : List (List ℕ)) × (body : List ℕ) × (r ≡ plain_request method path body)
    × Begins (method_word method) (SaysParts method path body) line

-- a number, and bytes in hex
abbrev pub SaysPortAndBytes : ℕ → List ℕ → List ℕ → Type 0
SaysPortAndBytes port bytes line = (word : List ℕ) × (digits : List ℕ) × IsCut 32 line word digits
    × SaysNumber word port × (decode_of digits ≡ Ok bytes)

-- the datagram of a stranger at 127.0.0.1: to which end it comes, from which port, and its bytes in hex
abbrev pub SaysStranger : Side → Endpoint → List ℕ → List ℕ → Type 0
SaysStranger side from bytes line = (from.ip ≡ localhost) × (from.port < 2 ^ 16)
    × Begins (side_word side) (SaysPortAndBytes from.port bytes) line

-- what happens: its word, and what that needs
abbrev pub SaysWhat : What → List ℕ → Type 0
SaysWhat (Calls r) line = Begins (kind_word kind.Call) (SaysRequest r) line
SaysWhat (Observes path) line = Begins (kind_word kind.Observe) (λ rest. SaysPath rest path) line
SaysWhat (Cancels number) line = Begins (kind_word kind.Cancel) (λ rest. SaysNumber rest number) line
SaysWhat (Forgets number) line = Begins (kind_word kind.Forget) (λ rest. SaysNumber rest number) line
SaysWhat (Sets path format body) line = (format ≡ Some text_plain)
    × Begins (kind_word kind.Set) (λ rest. SaysPathAndBody rest path body) line
SaysWhat (Removes path) line = Begins (kind_word kind.Remove) (λ rest. SaysPath rest path) line
SaysWhat TickClient line = Begins (kind_word kind.Tick) (λ rest. rest ≡ side_word Client) line
SaysWhat TickServer line = Begins (kind_word kind.Tick) (λ rest. rest ≡ side_word Server) line
SaysWhat (Deliver number) line = Begins (kind_word kind.Deliver) (λ rest. SaysNumber rest number) line
SaysWhat (StrangerToClient from bytes) line = Begins (kind_word kind.Stranger) (SaysStranger Client from bytes) line
SaysWhat (StrangerToServer from bytes) line = Begins (kind_word kind.Stranger) (SaysStranger Server from bytes) line

-- A line says an event with word 0: its moment, a space, and what happens.
abbrev pub SaysEvent : Event → List ℕ → Type 0
SaysEvent e line = (e.word ≡ 0) × (moment : List ℕ) × SaysNumber moment e.at × Begins moment (SaysWhat e.what) line

-- the lines of a script: a line end (10) comes after each, which the last may lack
abbrev pub lines_of : List ℕ → List (List ℕ)
lines_of [] = []
lines_of (byte ∷ bytes) = cond (byte == 10) ([] ∷ lines_of bytes) (onto_first byte (lines_of bytes))

-- each of these lines says the thing of its place
abbrev pub EachOf : {X : Type 0} → (X → List ℕ → Type 0) → List (List ℕ) → List X → Type 0
EachOf Says [] [] = Unit {0}
EachOf Says (line ∷ lines) (x ∷ xs) = Says x line × EachOf Says lines xs
EachOf _ _ _ = ⊥

-- the line of this number, from 1, is the first that says no such thing
pub record IsFirstBad {X : Type 0} (Says : X → List ℕ → Type 0) (lines : List (List ℕ)) (number : ℕ) : Type 0 where
  pub before : List (List ℕ)
  pub line : List ℕ
  pub behind : List (List ℕ)
  pub said : List X
  pub are : lines ≡ before ++ line ∷ behind
  pub counted : number ≡ length before + 1
  pub read : EachOf Says before said
  pub bad : (x : X) → Says x line → ⊥

-- each of these lines says the event of its place
abbrev pub EachSays : List (List ℕ) → List Event → Type 0
EachSays lines events = EachOf SaysEvent lines events

-- the lines of the text are these paths
abbrev pub EachNames : List (List ℕ) → List (List (List ℕ)) → Type 0
EachNames lines paths = EachOf (λ path line. NamesPath line path) lines paths
