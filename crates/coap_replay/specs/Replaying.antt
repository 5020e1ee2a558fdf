-- What a journal makes of a server: its records are done again, in order.
use Rattle.std.specs.Prelude.{◌≡◌, ℕ, Bool, true, false, Option, Some, None, List, [], ◌∷◌}
use Rattle.coap_types.specs.declared.endpoint.Endpoint.{Endpoint}
use Rattle.coap_layer.specs.Trace.{Packet}
use Rattle.coap_server.specs.Led.{State, Step}
use Rattle.coap_server.specs.Trace.{Call, Delays, Feeds, Gets, NextOut, Plains, Refuses, Removes, Sets, TellsApplied}
use Rattle.coap_server.specs.Trace.{Forgets, Ticks}
use Rattle.coap_journal.specs.Input.{Delay, Feed, Forget, Input, Plain, Refuse, Remove, Set, Tick}
use Rattle.coap_journal.specs.Records.{Begun, Record, Turn, Woke}
use Rattle.coap_journal.specs.declared.beginning.Life.{Life}
use Rattle.coap_replay.specs.Doing as D

-- what was handed in by a call: what only takes or looks hands in nothing
abbrev pub input_of : Call → Option Input
input_of (Sets now path format body answer left) = Some (Set now path format body)
input_of (Removes now path answer left) = Some (Remove now path)
input_of (Delays path ms answer) = Some (Delay path ms)
input_of (Plains path answer) = Some (Plain path)
input_of (Feeds now from bytes word up came h below) = Some (Feed now from bytes word)
input_of (Refuses now from bytes word code up p response below) = Some (Refuse now from bytes word code)
input_of (Ticks now word below room due passed h id answer) = Some (Tick now word)
input_of (NextOut answer) = None
input_of (Gets path answer) = None
input_of (TellsApplied answer) = None
input_of (Forgets peer) = Some (Forget peer)

-- A datagram whose request is to be refused is handed in as such where it brings one, and else as one that is fed.
abbrev pub refused_as : Bool → ℕ → Endpoint → List ℕ → (word code : ℕ) → Input
refused_as true now from bytes word code = Refuse now from bytes word code
refused_as false now from bytes word code = Feed now from bytes word

-- the server takes this input in a call
pub record Takes (old : State) (input : Input) (new : State) : Type 0 where
  pub call : Call
  pub handed : input_of call ≡ Some input
  pub step : Step old call new

-- a datagram is taken from it, the first that waits
pub record Gives (old : State) (p : Packet) (new : State) : Type 0 where
  pub first : old.layer.queue ≡ p ∷ new.layer.queue
  pub step : Step old (NextOut (Some p)) new

-- several inputs, and several datagrams, each in order; a turn; a record; records
abbrev pub TakesAll : State → List Input → State → Type 0
TakesAll old inputs new = D.TakesAll Takes Gives old inputs new

abbrev pub GivesOut : State → List Packet → State → Type 0
GivesOut old out new = D.GivesOut Takes Gives old out new

abbrev pub Turned : State → ℕ → List Input → List Packet → State → Type 0
Turned old taken inputs out new = D.Turned Takes Gives old taken inputs out new

abbrev pub Does : State → Record → List Packet → State → Type 0
Does old done out new = D.Does Takes Gives old done out new

abbrev pub Replays : State → List Record → List Packet → State → Type 0
Replays old records out new = D.Replays Takes Gives old records out new

-- the last life of records after one, and the latest moment that they tell
abbrev pub last_life : Life → List Record → Life
last_life life [] = life
last_life life (Begun beginning first ∷ records) = last_life life records
last_life life (Woke further ∷ records) = last_life further records
last_life life (Turn moment taken inputs ∷ records) = last_life life records

abbrev pub latest_moment : ℕ → List Record → ℕ
latest_moment latest [] = latest
latest_moment latest (Begun beginning first ∷ records) = latest_moment latest records
latest_moment latest (Woke further ∷ records) = latest_moment further.moment.0 records
latest_moment latest (Turn moment taken inputs ∷ records) = latest_moment moment records
