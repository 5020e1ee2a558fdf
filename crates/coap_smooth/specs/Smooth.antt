-- Smooth runs, in which nothing is lost and nothing is late: each datagram comes at most 1,000 ms after it was given
-- out (whether it comes again, and in which order, is free), and no step of an end is due for over 1,000 ms (RFC 7252,
-- sections 4.2 and 4.8; the numbers are a profile).
use Rattle.std.specs.Prelude.{◌≡◌, ◌⊎◌, ◌≤◌, ◌<◌, ℕ, ◌+◌, ◌^◌, nat_le, Bool, false, ◌&&◌, Option, Some, None, List, []}
use Rattle.std.specs.Prelude.{◌∷◌, All, if◌then◌else◌}
use Rattle.coap_types.specs.Past.{Ever, Always}
use Rattle.coap_types.specs.declared.transmission.TheConstants.{EXCHANGE_LIFETIME_MS as exchange_lifetime}
use Rattle.coap_layer.specs.Trace as L
use Rattle.coap_layer.specs.Words.{handed_by}
use Rattle.coap_layer.specs.declared.setup.Setup.{Setup}
pub use Rattle.coap_client_laws.specs.Follows.CallsAlone.{TakesNoObservation}
use Rattle.coap_client_laws.specs.Follows.CallsAlone.{NoneIsTaken}
use Rattle.coap_client_laws.specs.Follows.Rests.{IsTick as IsTickOfClient}
use Rattle.coap_client.specs.Law.{ClientLaw}
use Rattle.coap_client.specs.Trace as C
use Rattle.coap_exchange.specs.AnswererIds.{FewNotified}
use Rattle.coap_server.specs.Follows.Rests.{IsTick as IsTickOfServer}
use Rattle.coap_server.specs.Law.{ServerLaw, lower_of}
use Rattle.coap_server.specs.Trace as S
use Rattle.coap_server.specs.Trace.{Delay}
use Rattle.coap_record.specs.Events.{Config, What, TickClient, TickServer, Deliver}
use Rattle.coap_record.specs.Events.{StrangerToClient, StrangerToServer}
use Rattle.coap_record.specs.Legal.{NotBefore}
use Rattle.coap_record.specs.Record.{Given, Turn, IsNumber, entries_of, client_of, server_of, server_trace}
use Rattle.coap_promise.specs.Words.{changes_in}
use Rattle.coap_record.specs.declared.addresses.Addresses.{Addresses}

-- how old a datagram becomes, and how long a step of an end is due, at most
abbrev pub max_age : ℕ
max_age = 1000

-- by how much a path's delay lets its requests wait, at most: less than EXCHANGE_LIFETIME, at whose end a client gives
-- up
abbrev pub max_delay : ℕ
max_delay = 240000

-- at each event, in what came before it

-- the datagram of this number was delivered
abbrev pub WasDelivered : ℕ → List Turn → Type 0
WasDelivered number past = Ever (λ (t : Turn). t.event.what ≡ Deliver number) past

-- each datagram to an end that was given out more than 1,000 ms ago was delivered (again is no harm)
abbrev pub NoneIsLate : Addresses → List Turn → ℕ → Type 0
NoneIsLate addresses past at =
    (number : ℕ) (g : Given) → IsNumber addresses number g past → (g.packet.to ≡ addresses.client)
    ⊎ (g.packet.to ≡ addresses.server)
    → g.at + max_age < at
    → WasDelivered number past

-- the end ticked at most 1,000 ms ago, or the run began then
abbrev pub HasTicked : What → List Turn → ℕ → Type 0
HasTicked tick past at = Ever (λ (t : Turn). (t.event.what ≡ tick) × (at ≤ t.event.at + max_age)) past
    ⊎ Always (λ before (t : Turn). at ≤ t.event.at + max_age) past

module _ (config : Config) where
  -- After these turns, at this moment, the client has nothing to do: a tick does nothing. (So it is at each moment
  -- before the one that `due` of `Client` tells, and always where that tells none.)
  abbrev pub ClientRests : List Turn → ℕ → Type 0
  ClientRests past now = (c : C.Call) × IsTickOfClient now false c
      × ClientLaw config.addresses.server config.client_sizes config.client_setup (c ∷ client_of (entries_of past))

  -- .. the server
  abbrev pub ServerRests : List Turn → ℕ → Type 0
  ServerRests past now = (c : S.Call) × IsTickOfServer now false c
      × ServerLaw config.limits config.server_szx config.server_setup (c ∷ server_trace config (entries_of past))

-- After these turns and before the next event, at a moment at most 1,000 ms ago, it had nothing to do.
pub record RestsSo (Rests : List Turn → ℕ → Type 0) (at next : ℕ) (past : List Turn) : Type 0 where
  pub now : ℕ
  pub since : NotBefore past now
  pub before : now ≤ next
  pub soon : at ≤ now + max_age
  pub rests : Rests past now

-- .. after these turns, or fewer
abbrev pub HasRested : (List Turn → ℕ → Type 0) → (at next : ℕ) → List Turn → Type 0
HasRested Rests at next [] = ⊥
HasRested Rests at next (t ∷ past) = RestsSo Rests at next (t ∷ past) ⊎ HasRested Rests at t.event.at past

-- No step of the end has been due for over 1,000 ms: at most so long ago it ticked, or had nothing to do, or the run
-- began. (An acknowledgement may take away what was due; then nobody ticked late.)
abbrev pub KeepsUp : What → (List Turn → ℕ → Type 0) → List Turn → ℕ → Type 0
KeepsUp tick Rests past at = HasTicked tick past at ⊎ HasRested Rests at at past

abbrev pub IsOfAnEnd : What → Type 0
IsOfAnEnd (StrangerToClient from bytes) = ⊥
IsOfAnEnd (StrangerToServer from bytes) = ⊥
IsOfAnEnd what = Unit {0}

pub record GoesSmoothly (config : Config) (past : List Turn) (turn : Turn) : Type 0 where
  pub in_time : NoneIsLate config.addresses past turn.event.at
  pub client_keeps_up : KeepsUp TickClient (ClientRests config) past turn.event.at
  pub server_keeps_up : KeepsUp TickServer (ServerRests config) past turn.event.at
  -- no refused memory
  pub all_made : turn.refused ≡ false

-- how many messages come to an end for the first time in EXCHANGE_LIFETIME: fewer than it remembers, and than there are
-- Message IDs for their answers (RFC 7252, section 4.4). Its message layer hands them up (what it remembers, and an
-- acknowledgement, it does not: section 4.5).

abbrev pub most_that_come : ℕ
most_that_come = 4096

abbrev pub came_at : ℕ → L.Answer → Option ℕ
came_at now up = elim (handed_by up) [ Some m ↦ Some now | None ↦ None ]

abbrev pub to_client : C.Call → Option ℕ
to_client (C.Feeds now from bytes word up settled event sent token kept) = came_at now up
to_client c = None

abbrev pub to_server : S.Call → Option ℕ
to_server (S.Feeds now from bytes word up came h below) = came_at now up
to_server (S.Refuses now from bytes word code up p response below) = came_at now up
to_server c = None

-- from this moment on, for EXCHANGE_LIFETIME
abbrev pub is_then : ℕ → Option ℕ → Bool
is_then since None = false
is_then since (Some at) = nat_le since at && nat_le at (since + exchange_lifetime)

abbrev pub count_came : {X : Type 0} → (X → Option ℕ) → ℕ → List X → ℕ
count_came came since [] = 0
count_came came since (c ∷ past) =
    if is_then since (came c) then 1 + count_came came since past else count_came came since past

abbrev pub FewCome : {X : Type 0} → Setup → (X → Option ℕ) → List X → Type 0
FewCome setup came calls =
    (since : ℕ) → (count_came came since calls < setup.remembered) × (count_came came since calls < most_that_come)

pub record Smooth (config : Config) (turns : List Turn) : Type 0 where
  pub goes : Always (GoesSmoothly config) turns
  pub few_to_client : FewCome config.client_setup to_client (client_of (entries_of turns))
  pub few_to_server : FewCome config.server_setup to_server (server_of (entries_of turns))
  pub delays : All (λ (d : Delay). d.ms ≤ max_delay) config.delays
  -- fewer changes than half of the sequence numbers of notifications (RFC 7641, section 3.4)
  pub versions : changes_in config (entries_of turns) < config.limits.base + 2 ^ 23

-- each end does so at each event
abbrev pub KeepUp : Config → List Turn → Type 0
KeepUp config turns =
    Always (λ past (turn : Turn). KeepsUp TickClient (ClientRests config) past turn.event.at
    × KeepsUp TickServer (ServerRests config) past turn.event.at) turns

-- .. as it does where it ticks each 1,000 ms, whether or not something is due
abbrev pub TicksOften : List Turn → Type 0
TicksOften turns =
    Always (λ past (turn : Turn). HasTicked TickClient past turn.event.at
    × HasTicked TickServer past turn.event.at) turns

-- Strangers, other clients among them, may send what they like, if few messages come in all. No stranger sends
-- anything:
abbrev pub NoStranger : List Turn → Type 0
NoStranger turns = Always (λ past (turn : Turn). IsOfAnEnd turn.event.what) turns

-- .. or the server sends few notifications, in EXCHANGE_LIFETIME fewer than one group of Message IDs has (where the
-- client observes nothing, they all go to strangers).
abbrev pub FewNotices : Config → List Turn → Type 0
FewNotices config turns =
    FewNotified most_that_come (lower_of config.limits config.server_szx (server_trace config (entries_of turns)))

abbrev pub FewTold : Config → List Turn → Type 0
FewTold config turns = NoStranger turns ⊎ FewNotices config turns

-- a smooth run in which the client may observe, and few notifications are sent
pub record SmoothFewTold (config : Config) (turns : List Turn) : Type 0 where
  pub smooth : Smooth config turns
  pub told : FewTold config turns

-- nothing is observed: no observation is taken (one that is refused may stand in the run)

abbrev pub NoneObserved : List Turn → Type 0
NoneObserved turns = NoneIsTaken (client_of (entries_of turns))
