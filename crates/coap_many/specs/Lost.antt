-- What is left of an input that is refused memory, in a run of many.
use Rattle.std.specs.Prelude.{◌≡◌, ◌⊎◌, ℕ, true, List, [], map}
use Rattle.coap_types.specs.Past.{Always}
use Rattle.coap_types.specs.declared.endpoint.Endpoint.{Endpoint}
use Rattle.coap_record.specs.Events as E
use Rattle.coap_promise.specs.NoFault as N
use Rattle.coap_record.specs.Record as W
use Rattle.coap_many.specs.Clients.{Config, IsOfClient}
use Rattle.coap_many.specs.Entries.{Entry, Turn, IsNumber, as_of}
use Rattle.coap_many.specs.Events.{What, Acts, Sets, Removes, TickServer, Deliver, StrangerToClient, StrangerToServer}
use Rattle.coap_many.specs.Events.{Event, act_of}
use Rattle.coap_many.specs.Record.{RecordOf}

-- Of such an input to the client at this address, or to the server, that is left which a world of these two leaves of
-- it.
abbrev pub LosesAt : Config → Endpoint → ℕ → ℕ → E.What → List Entry → Type 0
LosesAt config who at word what entries = (es : List W.Entry)
    × N.IsLost (record { client = who; server = config.server }) [] at word what es × (entries ≡ map (as_of who) es)

-- .. of a datagram, at the end that it is addressed to
abbrev pub LosesOf : Config → W.Given → ℕ → ℕ → List Entry → Type 0
LosesOf config g at word entries =
    ((g.packet.to ≡ config.server)
    × LosesAt config config.server at word (E.StrangerToServer g.from g.packet.bytes) entries)
    ⊎ (IsOfClient config g.packet.to
    × LosesAt config g.packet.to at word (E.StrangerToClient g.from g.packet.bytes) entries)

abbrev pub IsLost : Config → List Turn → ℕ → ℕ → What → List Entry → Type 0
IsLost config past at word (Acts who act) entries = LosesAt config who at word (act_of act) entries
IsLost config past at word (Sets path format body) entries =
    LosesAt config config.server at word (E.Sets path format body) entries
IsLost config past at word (Removes path) entries = LosesAt config config.server at word (E.Removes path) entries
IsLost config past at word TickServer entries = LosesAt config config.server at word E.TickServer entries
IsLost config past at word (Deliver number) entries =
    (g : W.Given) × IsNumber config number g past × LosesOf config g at word entries
IsLost config past at word (StrangerToClient who from bytes) entries =
    LosesAt config who at word (E.StrangerToClient from bytes) entries
IsLost config past at word (StrangerToServer from bytes) entries =
    LosesAt config config.server at word (E.StrangerToServer from bytes) entries

-- In each turn of each record an input that is refused memory is lost.
abbrev pub RefusedAreLost : Type 0
RefusedAreLost = (config : Config) (events : List Event) (turns : List Turn) → RecordOf config events turns
    → Always (λ past (t : Turn). t.refused ≡ true → IsLost config past t.event.at t.event.word t.event.what t.entries)
    turns
