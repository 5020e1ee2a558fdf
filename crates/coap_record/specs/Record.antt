-- The record of a run: what each event made of the two ends, the newest first.
use Rattle.std.specs.Prelude.{◌≡◌, ◌⊎◌, ℕ, Bool, true, false, Option, Some, None, List, [], ◌∷◌, ◌++◌, map, length}
use Rattle.coap_types.specs.Past.{Always, Sometime, all_of}
use Rattle.coap_types.specs.declared.endpoint.Endpoint.{Endpoint}
use Rattle.coap_layer.specs.Trace.{Packet}
use Rattle.coap_client.specs.Law.{ClientLaw}
use Rattle.coap_server.specs.Law.{ServerLaw}
use Rattle.coap_record.specs.Events.{Config, What, Calls, Observes, Cancels, Forgets, Sets}
use Rattle.coap_record.specs.Events.{Removes, TickClient, TickServer, Deliver, StrangerToClient, StrangerToServer}
use Rattle.coap_record.specs.Events.{Event}
use Rattle.coap_client.specs.Trace as C
use Rattle.coap_server.specs.Trace as S
use Rattle.coap_record.specs.declared.addresses.Addresses.{Addresses}

-- a datagram that an end gave out
pub record Given : Type 0 where
  pub at : ℕ
  pub from : Endpoint
  pub packet : Packet

abbrev pub given_as : ℕ → Endpoint → Option Packet → List Given
given_as at from None = []
given_as at from (Some packet) = record { at = at; from = from; packet = packet } ∷ []

-- an input is one call, and none where it met want of memory
abbrev pub IsOne : {X : Type 0} → (X → Type 0) → Bool → List X → Type 0
IsOne Is true calls = calls ≡ []
IsOne Is false calls = (c : _) × Is c × (calls ≡ c ∷ [])

-- ticks, up to the first that does nothing or meets want of memory
abbrev pub AreTicks : {X : Type 0} → (Bool → X → Type 0) → Bool → List X → Type 0
AreTicks IsTick true calls = Always (λ past c. IsTick true c) calls
AreTicks IsTick false [] = ⊥
AreTicks IsTick false (c ∷ earlier) = IsTick false c × Always (λ past b. IsTick true b) earlier

-- a call of an end
pub data Entry : Type 0 where
  OfClient : (call : C.Call) → Entry
  OfServer : (call : S.Call) → Entry

-- an event, whether its input met want of memory, and the calls that it made
pub record Turn : Type 0 where
  pub event : Event
  pub refused : Bool
  pub entries : List Entry

abbrev pub entries_of : List Turn → List Entry
entries_of turns = all_of (λ (t : Turn). t.entries) turns

abbrev pub client_of : List Entry → List C.Call
client_of [] = []
client_of (OfClient c ∷ past) = c ∷ client_of past
client_of (OfServer c ∷ past) = client_of past

abbrev pub server_of : List Entry → List S.Call
server_of [] = []
server_of (OfClient c ∷ past) = server_of past
server_of (OfServer c ∷ past) = c ∷ server_of past

-- with what a server begins: the delay of a path, and that a path is plain
pub data Setting : Type 0 where
  DelayOf : (delay : S.Delay) → Setting
  PlainOf : (path : List (List ℕ)) → Setting

abbrev pub gives_it : Setting → S.Call
gives_it (DelayOf d) = S.Delays d.path d.ms true
gives_it (PlainOf path) = S.Plains path true

abbrev pub settings : Config → List Setting
settings config = map (λ p. PlainOf p) config.plains ++ map (λ d. DelayOf d) config.delays

-- the calls that give it these
abbrev pub begun_with : Config → List S.Call
begun_with config = map gives_it (settings config)

-- its trace
abbrev pub server_trace : Config → List Entry → List S.Call
server_trace config all = server_of all ++ begun_with config

-- the datagrams that an end gave out

abbrev pub given_by : Addresses → ℕ → Entry → List Given
given_by addresses at (OfClient (C.NextOut answer)) = given_as at addresses.client answer
given_by addresses at (OfServer (S.NextOut answer)) = given_as at addresses.server answer
given_by addresses at _ = []

abbrev pub given_in : Addresses → Turn → List Given
given_in addresses turn = all_of (given_by addresses turn.event.at) turn.entries

-- a datagram has the number of those that were given out before it
abbrev pub IsNumber : Addresses → ℕ → Given → List Turn → Type 0
IsNumber addresses number g past = Sometime (λ before h. (h ≡ g) × (length before ≡ number))
    (all_of (given_in addresses) past)

-- After the calls of an event, all that its end has out is taken, and all its reports, until there is none.
pub record OnClient (calls : List C.Call) (entries : List Entry) : Type 0 where
  pub outs : List Packet
  pub reports : List C.Reported
  pub is : entries
      ≡ map OfClient (C.NextReport None ∷ (map (λ r. C.NextReport (Some r)) reports
      ++ C.NextOut None ∷ (map (λ p. C.NextOut (Some p)) outs ++ calls)))

pub record OnServer (calls : List S.Call) (entries : List Entry) : Type 0 where
  pub outs : List Packet
  pub is : entries ≡ map OfServer (S.NextOut None ∷ (map (λ p. S.NextOut (Some p)) outs ++ calls))

abbrev pub ClientTick : ℕ → ℕ → Bool → C.Call → Type 0
ClientTick at word answer c = (below : _) × (turn : _) × (sent : _) × (token : _) × (kept : _)
    × (c ≡ C.Ticks at word below turn sent token kept answer)

abbrev pub ServerTick : ℕ → ℕ → Bool → S.Call → Type 0
ServerTick at word answer c = (below : _) × (room : _) × (due : _) × (passed : _) × (h : _) × (id : _)
    × (c ≡ S.Ticks at word below room due passed h id answer)

abbrev pub FeedsClient : ℕ → ℕ → Endpoint → List ℕ → C.Call → Type 0
FeedsClient at word from bytes c = (up : _) × (settled : _) × (event : _) × (sent : _) × (token : _) × (kept : _)
    × (c ≡ C.Feeds at from bytes word up settled event sent token kept)

abbrev pub FeedsServer : ℕ → ℕ → Endpoint → List ℕ → S.Call → Type 0
FeedsServer at word from bytes c = (up : _) × (came : _) × (h : _) × (below : _)
    × (c ≡ S.Feeds at from bytes word up came h below)

-- datagram n comes from the address of the end that gave it out to the end that it is addressed to
abbrev pub Delivers : Addresses → Given → ℕ → ℕ → Bool → List Entry → Type 0
Delivers addresses g at word refused entries =
    ((g.packet.to ≡ addresses.server) × (calls : List S.Call)
    × IsOne (FeedsServer at word g.from g.packet.bytes) refused calls × OnServer calls entries)
    ⊎ ((g.packet.to ≡ addresses.client) × (calls : List C.Call)
    × IsOne (FeedsClient at word g.from g.packet.bytes) refused calls × OnClient calls entries)

-- What an event makes of the ends. A cancel, a forgetting and a removal take no memory: they are one call, always.
abbrev pub Makes : Addresses → List Turn → ℕ → ℕ → What → Bool → List Entry → Type 0
Makes addresses past at word (Calls r) refused entries = (calls : List C.Call)
    × IsOne (λ c. (answer : _) × (c ≡ C.Calls at r answer)) refused calls × OnClient calls entries
Makes addresses past at word (Observes path) refused entries = (calls : List C.Call)
    × IsOne (λ c. (answer : _) × (c ≡ C.Observes at path answer)) refused calls × OnClient calls entries
Makes addresses past at word (Cancels number) refused entries =
    (calls : List C.Call) × (IsOne (λ c. (answer : _) × (c ≡ C.Cancels at number answer)) false calls
    × (refused ≡ false)) × OnClient calls entries
Makes addresses past at word (Forgets number) refused entries =
    (calls : List C.Call) × (IsOne (λ c. (kept : _) × (answer : _) × (c ≡ C.Forgets number kept answer)) false calls
    × (refused ≡ false)) × OnClient calls entries
Makes addresses past at word (Sets path format body) refused entries =
    (calls : List S.Call) × IsOne (λ c. (answer : _) × (left : _)
    × (c ≡ S.Sets at path format body answer left)) refused calls × OnServer calls entries
Makes addresses past at word (Removes path) refused entries =
    (calls : List S.Call) × (IsOne (λ c. (answer : _) × (left : _) × (c ≡ S.Removes at path answer left)) false calls
    × (refused ≡ false)) × OnServer calls entries
Makes addresses past at word TickClient refused entries = (calls : List C.Call)
    × AreTicks (ClientTick at word) refused calls
    × OnClient calls entries
Makes addresses past at word TickServer refused entries = (calls : List S.Call)
    × AreTicks (ServerTick at word) refused calls
    × OnServer calls entries
Makes addresses past at word (Deliver number) refused entries = (g : Given) × IsNumber addresses number g past
    × Delivers addresses g at word refused entries
Makes addresses past at word (StrangerToClient from bytes) refused entries = (calls : List C.Call)
    × IsOne (FeedsClient at word from bytes) refused calls × OnClient calls entries
Makes addresses past at word (StrangerToServer from bytes) refused entries = (calls : List S.Call)
    × IsOne (FeedsServer at word from bytes) refused calls × OnServer calls entries

-- The record of these events, the newest first: each turn is what its event makes, and each end stands in its law.
pub record RecordOf (config : Config) (events : List Event) (turns : List Turn) : Type 0 where
  pub events_are : map (λ (t : Turn). t.event) turns ≡ events
  pub made : Always (λ past t. Makes config.addresses past t.event.at t.event.word t.event.what t.refused t.entries)
      turns
  pub client : ClientLaw config.addresses.server config.client_sizes config.client_setup (client_of (entries_of turns))
  pub server : ServerLaw config.limits config.server_szx config.server_setup (server_trace config (entries_of turns))
