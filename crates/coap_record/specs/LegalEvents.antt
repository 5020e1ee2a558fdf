-- Which events are legal, kind by kind and at each border, and of which no run is (RFC 7252, section 4.8.2:
-- MAX_LATENCY).
use Rattle.std.specs.Prelude.{◌≡◌, ◌≢◌, ◌⊎◌, ◌≤◌, ◌<◌, ℕ, ◌+◌, ◌^◌, false, Option, Some, IfSome, List, [], ◌∷◌, length}
use Rattle.std.specs.Prelude.{All}
use Rattle.coap_types.specs.declared.endpoint.Endpoint.{Endpoint}
use Rattle.coap_types.specs.declared.path.TheConstants.{MAX_SEGMENTS as max_segments}
use Rattle.coap_types.specs.declared.path.TheConstants.{MAX_SEGMENT_LEN as max_segment_len}
use Rattle.coap_types.specs.EntityTag.{AreTags}
use Rattle.coap_record.specs.Events.{Config, What, Calls, Observes, Cancels, Forgets, Sets}
use Rattle.coap_record.specs.Events.{Removes, TickClient, TickServer, Deliver, StrangerToServer, StrangerToClient}
use Rattle.coap_record.specs.Events.{Event}
use Rattle.coap_types.specs.Bytes.{AreBytes}
use Rattle.coap_client.specs.Trace.{Request}
use Rattle.coap_record.specs.Legal.{IsLegal, AllLegal}
use Rattle.coap_record.specs.Record.{Given, Turn, RecordOf, IsNumber}
use Rattle.coap_record.specs.declared.addresses.Addresses.{Addresses}

-- an event is legal, whatever it makes
abbrev pub MayHappen : Addresses → List Turn → Event → Type 0
MayHappen addresses past e = IsLegal addresses past (record { event = e; refused = false; entries = [] })

abbrev pub event : ℕ → What → Event
event at what = record { at = at; word = 0; what = what }

-- no run of these events is legal, which may speak of where its ends stand
abbrev pub NoneRunsOf : (Config → List Event) → Type 0
NoneRunsOf events = (config : Config) (turns : List Turn) → RecordOf config (events config) turns
    → AllLegal config.addresses turns → ⊥

abbrev pub NoneRuns : List Event → Type 0
NoneRuns events = NoneRunsOf (λ config. events)

-- Each kind of event may happen, first and then at a moment that is not before the last, where its numbers are in
-- range.

abbrev pub at_with : ℕ → ℕ → What → Event
at_with at word what = record { at = at; word = word; what = what }

pub record May (addresses : Addresses) (what : What) : Type 0 where
  pub first : (at word : ℕ) → at < 2 ^ 64 → word < 2 ^ 64 → MayHappen addresses [] (at_with at word what)
  pub then : (last : Turn) (past : List Turn) (at word : ℕ) → at < 2 ^ 64 → word < 2 ^ 64 → last.event.at ≤ at
      → MayHappen addresses (last ∷ past) (at_with at word what)

-- a path of at most MAX_SEGMENTS segments, each of at most MAX_SEGMENT_LEN bytes; a number of 16 bits, if any

abbrev pub Segments : List (List ℕ) → Type 0
Segments path = (length path ≤ max_segments) × All (λ s. length s ≤ max_segment_len) path × All AreBytes path

abbrev pub Is16 : Option ℕ → Type 0
Is16 o = IfSome o (λ n. n < 2 ^ 16)

abbrev pub CallsMay : Addresses → Type 0
CallsMay addresses = (r : Request) → Segments r.path → Is16 r.accept → Is16 r.format → AreBytes r.body → AreTags r.etags
    → AreTags r.if_match → May addresses (Calls r)

abbrev pub ObservesMay : Addresses → Type 0
ObservesMay addresses = (path : List (List ℕ)) → Segments path → May addresses (Observes path)

-- of whatever number, also one that is not given yet
abbrev pub EndsMay : Addresses → Type 0
EndsMay addresses = (number : ℕ) → number < 2 ^ 64 → May addresses (Cancels number) × May addresses (Forgets number)

abbrev pub SetsMay : Addresses → Type 0
SetsMay addresses = (path : List (List ℕ)) (format : Option ℕ) (body : List ℕ) → Segments path → Is16 format
    → AreBytes body
    → May addresses (Sets path format body)

abbrev pub RemovesMay : Addresses → Type 0
RemovesMay addresses = (path : List (List ℕ)) → Segments path → May addresses (Removes path)

abbrev pub TicksMay : Addresses → Type 0
TicksMay addresses = May addresses TickClient × May addresses TickServer

-- a stranger, at any address that is no end's
abbrev pub StrangersMay : Addresses → Type 0
StrangersMay addresses = (ip : List ℕ) (port : ℕ) (bytes : List ℕ) → length ip ≡ 4 → AreBytes ip → port < 2 ^ 16
    → AreBytes bytes
    → record { ip = ip; port = port } ≢ addresses.client → record { ip = ip; port = port } ≢ addresses.server
    → May addresses (StrangerToServer (record { ip = ip; port = port }) bytes)
    × May addresses (StrangerToClient (record { ip = ip; port = port }) bytes)

-- any datagram that was given out to an end, once or more often
abbrev pub DeliveriesMay : Addresses → ℕ → Type 0
DeliveriesMay addresses last = (turn : Turn) (past : List Turn) (at word number : ℕ) (g : Given) → at < 2 ^ 64
    → word < 2 ^ 64
    → turn.event.at ≤ at → IsNumber addresses number g (turn ∷ past)
    → ((g.packet.to ≡ addresses.client) ⊎ (g.packet.to ≡ addresses.server)) → at ≤ g.at + last
    → MayHappen addresses (turn ∷ past) (at_with at word (Deliver number))

-- moments don't fall, and have 64 bits; so have words; a path has no more segments, and a format no more bits

abbrev pub NoneFalls : Type 0
NoneFalls = (at later : ℕ) → at < later → NoneRuns (event at TickClient ∷ event later TickServer ∷ [])

abbrev pub NoneOver : Type 0
NoneOver = (at word : ℕ) → (2 ^ 64 ≤ at) ⊎ (2 ^ 64 ≤ word) → NoneRuns (at_with at word TickClient ∷ [])

abbrev pub NoneLonger : Type 0
NoneLonger = (path : List (List ℕ)) → max_segments < length path → NoneRuns (event 0 (Removes path) ∷ [])

abbrev pub NoneBeyond : Type 0
NoneBeyond = (path : List (List ℕ)) (format : ℕ) (body : List ℕ) → 2 ^ 16 ≤ format
    → NoneRuns (event 0 (Sets path (Some format) body) ∷ [])

-- a datagram that was given out at 0 comes

abbrev pub comes_at : ℕ → Request → List Event
comes_at at r = event at (Deliver 0) ∷ event 0 TickClient ∷ event 0 (Calls r) ∷ []

abbrev pub NotAfter : ℕ → Type 0
NotAfter last = (at : ℕ) (r : Request) → last < at → NoneRuns (comes_at at r)

-- a datagram comes that was never given out

abbrev pub never_given : List Event
never_given = event 0 (Deliver 0) ∷ []

-- a stranger has the address of an end of the run

abbrev pub NoneFrom : (Config → Endpoint) → Type 0
NoneFrom end =
    (at : ℕ) (bytes : List ℕ) → NoneRunsOf (λ config. event at (StrangerToServer (end config) bytes) ∷ [])
    × NoneRunsOf (λ config. event at (StrangerToClient (end config) bytes) ∷ [])
