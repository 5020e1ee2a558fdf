-- What becomes of the datagrams of a run: which never arrives, which repeats another, and how one arrives.
use Rattle.std.specs.Prelude.{ℕ, ◌-◌, Bool, false, ◌&&◌, ◌==◌, length, nat_eq, nat_lt, not, List, take, slice_get}
use Rattle.std.specs.Prelude.{Option, Some, None, if◌then◌else◌}
use Rattle.std.specs.Cmp.Lexicographic.{pointwise}
use Rattle.std.specs.List.{list_any, position}
use Rattle.std.specs.Option.{unwrap_or}
use Rattle.coap_types.specs.SameEndpoint.{same_endpoint}
use Rattle.coap_types.specs.declared.endpoint.Endpoint.{Endpoint}
use Rattle.coap_record.specs.Record.{Given}
use Rattle.coap_record.specs.declared.addresses.Addresses.{Addresses}
use Rattle.coap_run.specs.declared.running.event.Event.{Event}
use Rattle.coap_run.specs.declared.running.event.Side.{Side}
use Rattle.coap_run.specs.declared.running.event.Side.TheVariants.{Client, Server}
use Rattle.coap_run.specs.declared.running.event.What.{What}
use Rattle.coap_run.specs.declared.running.event.What.TheVariants as what
use Rattle.coap_scripts.specs.Charts.{side_at}
use Rattle.coap_scripts.specs.declared.chart.traffic.Arrival.{Arrival}
use Rattle.coap_scripts.specs.declared.chart.traffic.Arrival.TheVariants.{Again, InOrder, Late}

-- they have the same bytes, and go between the same endpoints
abbrev pub is_alike : Given → Given → Bool
is_alike one other =
    (same_endpoint one.from other.from && same_endpoint one.packet.to other.packet.to)
    && pointwise nat_eq one.packet.bytes other.packet.bytes

-- the number of the first datagram before this number that is alike
abbrev pub first_alike : List Given → ℕ → Given → Option ℕ
first_alike all number given = position (λ earlier. is_alike earlier given) (take number all)

-- this end gave it out
abbrev pub is_given_by : Endpoint → Option Given → Bool
is_given_by from None = false
is_given_by from (Some given) = same_endpoint given.from from

-- the end to which it goes; the server where there is none
abbrev pub side_to : Addresses → Option Given → Side
side_to addresses None = Server
side_to addresses (Some given) = unwrap_or (side_at addresses given.packet.to) Server

module _ {A : Type 0} where
  -- the datagram of this number is delivered
  abbrev pub delivers : ℕ → What A → Bool
  delivers number (what.Deliver delivered) = delivered == number
  delivers number other = false

  -- a datagram is delivered that this end gave out behind that of this number
  abbrev pub delivers_later : List Given → ℕ → Endpoint → What A → Bool
  delivers_later all number from (what.Deliver later) = nat_lt number later && is_given_by from (slice_get all later)
  delivers_later all number from other = false

  -- one of the events delivers it
  abbrev pub is_delivered : List (Event A) → ℕ → Bool
  is_delivered events number = list_any (λ e. delivers number e.what) events

  -- .. and none
  abbrev pub is_lost : List (Event A) → ℕ → Bool
  is_lost events number = not (is_delivered events number)

  -- one of the events delivers one that this end gave out behind it
  abbrev pub is_overtaken : List (Event A) → List Given → ℕ → Endpoint → Bool
  is_overtaken events all number from = list_any (λ e. delivers_later all number from e.what) events

  -- how it arrives behind so many events
  abbrev pub arrival : List (Event A) → List Given → ℕ → ℕ → Given → Arrival
  arrival events all past number given =
      if is_delivered (take past events) number then Again
      else if is_overtaken (take past events) all number given.from then Late
      else InOrder

  -- the end at which it happens: what is delivered, at the end to which it goes
  abbrev pub side_of : Addresses → List Given → What A → Side
  side_of addresses all (what.Call request) = Client
  side_of addresses all (what.Observe path) = Client
  side_of addresses all (what.Cancel id) = Client
  side_of addresses all (what.Forget id) = Client
  side_of addresses all (what.Set path format body) = Server
  side_of addresses all (what.Remove path) = Server
  side_of addresses all (what.Tick side) = side
  side_of addresses all (what.Stranger side from bytes) = side
  side_of addresses all (what.Deliver number) = side_to addresses (slice_get all number)

  -- the moment of the last event, 0 where there is none
  abbrev pub moment_of : Option (Event A) → ℕ
  moment_of None = 0
  moment_of (Some event) = event.at.0

  abbrev pub last_moment : List (Event A) → ℕ
  last_moment events = moment_of (slice_get events (length events - 1))
