-- The notifications of an observation that a client takes are each newer than the one before (RFC 7641, section 3.4).
use Rattle.std.specs.Prelude.{◌≡◌, ℕ, ◌==◌, max, Option, Some, None, List, [], ◌∷◌, if◌then◌else◌}
use Rattle.coap_types.specs.Past.{Always}
use Rattle.coap_codec.specs.Message.{Message}
use Rattle.coap_block.specs.Sizes.{Sizes}
use Rattle.coap_exchange.specs.declared.asker.Event.{Event}
use Rattle.coap_exchange.specs.declared.asker.Event.TheVariants as event
use Rattle.coap_observe.specs.Newer.{Mark, IsNewer, is_newer}
use Rattle.coap_client.specs.Trace.{Call, Feeds}
use Rattle.coap_client.specs.Own.{Operation, Registering, Observation, Own}
use Rattle.coap_client.specs.Observations.{observation_with}
use Rattle.coap_client.specs.Responses.{is_notification, sequence_in}
use Rattle.coap_client.specs.Law.{own_of}
use Rattle.coap_client.specs.Sendings.{hears}

-- a notification that is taken as newer: of which observation, with which number, when, and the message
pub record Newly : Type 0 where
  pub number : ℕ
  pub mark : Mark
  pub message : Message

abbrev pub newly : ℕ → ℕ → Message → Option Newly
newly number at m = Some (record { number = number; mark = record { number = sequence_in m; at = at }; message = m })

-- the answer to a registration, where it is one
abbrev pub registers : Option Operation → ℕ → Message → Option Newly
registers (Some (Registering number path)) at m = if is_notification m then newly number at m else None
registers op at m = None

-- a later one, under the token of the observation
abbrev pub renews : Option Observation → ℕ → Message → Option Newly
renews None at m = None
renews (Some o) at m = if is_notification m then
    (if is_newer o.watch.mark (sequence_in m) at then newly o.number at m else None) else None

abbrev pub taken_by : Own → ℕ → Option Event → Option Newly
taken_by s at (Some (event.Answer m)) = registers s.running at m
taken_by s at (Some (event.Notice m)) = renews (observation_with m.token s.observations) at m
taken_by s at e = None

abbrev pub notifies : Own → Call → Option Newly
notifies s (Feeds now from bytes word up settled event sent token kept) = taken_by s (max s.clock now) event
notifies s c = None

abbrev pub mark_if : ℕ → Option Newly → Option Mark → Option Mark
mark_if number None last = last
mark_if number (Some n) last = if n.number == number then Some n.mark else last

module _ (sizes : Sizes) where
  -- the newest of an observation
  abbrev pub last_mark : ℕ → List Call → Option Mark
  last_mark number [] = None
  last_mark number (c ∷ past) = mark_if number (notifies (own_of sizes past) c) (last_mark number past)

  -- Each that comes under the token of the observation is newer than the newest before.
  abbrev pub AreNewer : List Call → Type 0
  AreNewer trace =
      Always (λ past c. (n : Newly) → hears c ≡ None → notifies (own_of sizes past) c ≡ Some n
      → IsNewer (last_mark n.number past) n.mark.number n.mark.at) trace
