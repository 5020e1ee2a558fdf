-- No datagram makes either end fault: whatever comes has a turn, and an input that is refused memory is lost.
use Rattle.std.specs.Prelude.{◌≡◌, ◌⊎◌, ℕ, true, List, [], ◌∷◌, ◌++◌, map}
use Rattle.coap_types.specs.Past.{Always}
use Rattle.coap_client.specs.Trace as C
use Rattle.coap_server.specs.Trace as S
use Rattle.coap_record.specs.Events.{Config, What, Calls, Observes, Cancels, Forgets, Sets}
use Rattle.coap_record.specs.Events.{Removes, TickClient, TickServer, Deliver, StrangerToClient, StrangerToServer}
use Rattle.coap_record.specs.Events.{Event}
use Rattle.coap_promise.specs.GoesOn.{turn_of, Follows}
use Rattle.coap_record.specs.LegalEvents.{MayHappen}
use Rattle.coap_record.specs.Record.{Given, Entry, Turn, IsNumber, OnClient, OnServer, ClientTick, ServerTick, RecordOf}
use Rattle.coap_record.specs.declared.addresses.Addresses.{Addresses}

abbrev pub events_of : List Turn → List Event
events_of turns = map (λ (t : Turn). t.event) turns

-- What is left of an input that is refused memory: of ticks, those before the refused one, each of which did something;
-- else no call of it. What its end had out is taken, and so are the client's reports; the end of a datagram is the one
-- that it is addressed to. A cancel, a forgetting and a removal take no memory.
abbrev pub IsLost : Addresses → List Turn → ℕ → ℕ → What → List Entry → Type 0
IsLost addresses past at word (Calls r) entries = OnClient [] entries
IsLost addresses past at word (Observes path) entries = OnClient [] entries
IsLost addresses past at word (Cancels number) entries = ⊥
IsLost addresses past at word (Forgets number) entries = ⊥
IsLost addresses past at word (Sets path format body) entries = OnServer [] entries
IsLost addresses past at word (Removes path) entries = ⊥
IsLost addresses past at word TickClient entries =
    (ticks : List C.Call) × Always (λ past c. ClientTick at word true c) ticks × OnClient ticks entries
IsLost addresses past at word TickServer entries =
    (ticks : List S.Call) × Always (λ past c. ServerTick at word true c) ticks × OnServer ticks entries
IsLost addresses past at word (Deliver number) entries = (g : Given) × IsNumber addresses number g past
    × (((g.packet.to ≡ addresses.server) × OnServer [] entries)
    ⊎ ((g.packet.to ≡ addresses.client) × OnClient [] entries))
IsLost addresses past at word (StrangerToClient from bytes) entries = OnClient [] entries
IsLost addresses past at word (StrangerToServer from bytes) entries = OnServer [] entries

-- Whatever event, at whatever moment. A datagram that comes was given out before, to an end.
abbrev pub CanCome : Addresses → List Turn → What → Type 0
CanCome addresses past (Deliver number) =
    (g : Given) × IsNumber addresses number g past × ((g.packet.to ≡ addresses.client)
    ⊎ (g.packet.to ≡ addresses.server))
CanCome addresses past what = Unit {0}

-- the record of one event more, in which nothing is refused
pub record HasTurn (config : Config) (events : List Event) (turns : List Turn) (event : Event) : Type 0 where
  pub entries : List Entry
  pub made : RecordOf config (event ∷ events) (turn_of event entries ∷ turns)

-- .. of any record, whatever its clocks and however late its datagrams
pub record NeverFaults (config : Config) (turns : List Turn) : Type 0 where
  -- at each position, each event that can come has a turn in which nothing is refused, and the record goes on
  pub goes_on : (later past : List Turn) → turns ≡ later ++ past → (event : Event)
      → CanCome config.addresses past event.what
      → HasTurn config (events_of past) past event
  -- .. and in each turn an input that is refused memory is lost
  pub refused_is_lost :
      Always (λ past t. t.refused ≡ true → IsLost config.addresses past t.event.at t.event.word t.event.what t.entries)
      turns

pub record NoFault (config : Config) (turns : List Turn) : Type 0 where
  -- at each position, each event that may happen there has a turn in which nothing is refused, and the record goes on
  pub goes_on : (later past : List Turn) → turns ≡ later ++ past → (event : Event)
      → MayHappen config.addresses past event
      → Follows config (events_of past) past event
  -- .. and in each turn an input that is refused memory is lost
  pub refused_is_lost :
      Always (λ past t. t.refused ≡ true → IsLost config.addresses past t.event.at t.event.word t.event.what t.entries)
      turns

-- it holds of each record, legal or not
abbrev pub OfRecords : (Config → List Turn → Type 0) → Type 0
OfRecords Holds = (config : Config) (events : List Event) (turns : List Turn) → RecordOf config events turns
    → Holds config turns
