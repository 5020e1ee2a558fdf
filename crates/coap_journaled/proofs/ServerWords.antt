-- What a server makes of a datagram, of a tick and of a datagram that is taken, as a replay has it.
use Rattle.std.proofs.Common.{◌≡◌, ◌∷◌, ℕ, Bool, List, Option, Some, refl}
use Rattle.coap_types.specs.declared.endpoint.Endpoint.{Endpoint}
use Rattle.coap_codec.specs.Message.{Message}
use Rattle.coap_layer.specs.Trace.{Answer, Packet}
use Rattle.coap_exchange.specs.declared.answerer.Asked.{Asked}
use Rattle.coap_exchange.specs.declared.answerer.Due.{Due}
use Rattle.coap_server.specs.Led.{State, Step}
use Rattle.coap_server.specs.Trace.{Feeds, Handling, NextOut, Ticks}
use Rattle.coap_journal.specs.Input.{Delay, Feed, Forget, Input, Plain, Refuse, Remove, Set, Tick}
use Rattle.coap_replay.specs.Replaying.{Gives, Takes}
use Rattle.coap_journaled.specs.Runs.{end_gives, end_takes}

abbrev pub feeds_of : State → ℕ → Endpoint → List ℕ → ℕ → State → Type 0
feeds_of s now from bytes word n = (up : Answer) × (came : Option (Asked × Message)) × (h : Handling) × (sent : Answer)
    × Step s (Feeds now from bytes word up came h sent) n

abbrev pub ticks_of : State → ℕ → ℕ → Bool → State → Type 0
ticks_of s now word did n = (done : Answer) × (room : Bool) × (due : Due) × (passed : ℕ) × (h : Handling) × (id : ℕ)
    × Step s (Ticks now word done room due passed h id did) n

ticked : (old new : State) (now word : ℕ) (did : Bool) → ticks_of old now word did new → Takes old (Tick now word) new
ticked old new now word did t =
    record { call = Ticks now word t.0 t.1 t.2 t.3 t.4 t.5 did; handed = refl; step = t.6 }

pub takes_is : (old new : State) (input : Input) → end_takes feeds_of ticks_of old input new → Takes old input new
takes_is old new (Feed now from bytes word) is =
    record { call = Feeds now from bytes word is.0 is.1 is.2 is.3; handed = refl; step = is.4 }
takes_is old new (Tick now word) is = ticked old new now word is.0 is.1
takes_is old new (Set now path format body) is = absurd is
takes_is old new (Remove now path) is = absurd is
takes_is old new (Delay path ms) is = absurd is
takes_is old new (Plain path) is = absurd is
takes_is old new (Refuse now from bytes word code) is = absurd is
takes_is old new (Forget peer) is = absurd is

abbrev pub waits : State → List Packet
waits s = s.layer.queue

abbrev pub gives_of : State → Packet → State → Type 0
gives_of s p n = Step s (NextOut (Some p)) n

pub gives_is : (old new : State) (p : Packet) → end_gives waits gives_of old p new → Gives old p new
gives_is old new p is = record { first = is.0; step = is.1 }
