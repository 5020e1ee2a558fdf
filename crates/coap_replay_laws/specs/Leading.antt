-- The history of a server that is replayed: the calls that lead on to it.
use Rattle.std.specs.Prelude.{◌≡◌, ℕ, Option, None, List, [], ◌∷◌, ◌++◌, option_to_list}
use Rattle.coap_layer.specs.Trace.{Packet}
use Rattle.coap_layer.specs.declared.setup.Setup.{Setup}
use Rattle.coap_resource.specs.Limits.{Limits}
use Rattle.coap_server.specs.Led.{Led, State}
use Rattle.coap_server.specs.Trace.{Call, Delays, Feeds, Gets, NextOut, Plains, Refuses, Removes, Sets, TellsApplied}
use Rattle.coap_server.specs.Trace.{Forgets, Ticks}
use Rattle.coap_journal.specs.Input.{Input}
use Rattle.coap_journal.specs.Records.{Begun, Record, Turn, Woke}
use Rattle.coap_replay.specs.Replaying.{input_of}

-- the datagram that a call gave out, if any
abbrev pub given_by : Call → Option Packet
given_by (Sets now path format body answer left) = None
given_by (Removes now path answer left) = None
given_by (Delays path ms answer) = None
given_by (Plains path answer) = None
given_by (Feeds now from bytes word up came h below) = None
given_by (Refuses now from bytes word code up p response below) = None
given_by (Ticks now word below room due passed h id answer) = None
given_by (NextOut answer) = answer
given_by (Gets path answer) = None
given_by (TellsApplied answer) = None
given_by (Forgets peer) = None

-- the inputs of a history, whose newest call stands first, and the datagrams that it gave out; the oldest first
abbrev pub inputs_of : List Call → List Input
inputs_of [] = []
inputs_of (c ∷ t) = inputs_of t ++ option_to_list (input_of c)

abbrev pub outs_of : List Call → List Packet
outs_of [] = []
outs_of (c ∷ t) = outs_of t ++ option_to_list (given_by c)

-- the inputs of records, one after the other
abbrev pub inputs_in : List Record → List Input
inputs_in [] = []
inputs_in (Begun beginning life ∷ records) = inputs_in records
inputs_in (Woke life ∷ records) = inputs_in records
inputs_in (Turn moment taken inputs ∷ records) = inputs ++ inputs_in records

-- From a server that a history led to, it is replayed to one to which that history leads on, by calls with these inputs
-- that give out these datagrams.
pub record LeadsOn (limits : Limits) (szx : ℕ) (setup : Setup) (t : List Call) (inputs : List Input) (out : List Packet)
    (new : State) : Type 0 where
  pub calls : List Call
  pub led : Led limits szx setup (calls ++ t) new
  pub inputs_are : inputs_of calls ≡ inputs
  pub outs_are : outs_of calls ≡ out
