-- What the parts of a client's object add up to (RFC 7252, section 5.2).
use Rattle.std.specs.Prelude.{ℕ, Option, Some, None, map}
use Rattle.std.specs.Option.{option_map}
use Rattle.coap_types.specs.declared.endpoint.Moment.{Moment}
use Rattle.coap_block.specs.Sizes.{Sizes}
use Rattle.coap_client.specs.Own.{Own}
use Rattle.coap_client.specs.declared.client.held.Held.{Held}
use Rattle.coap_client.specs.declared.client.parts.Parts.{Parts}
use Rattle.coap_client.specs.Led.{State}
use Rattle.coap_client.specs.Object.Happens.{left}
use Rattle.coap_client.specs.Object.Shown.{shown_operation, shown_queued, shown_observation, shown_reported}
use Rattle.coap_client.specs.Object.Shown.{shown_asked}

-- since when others are held back, in milliseconds
abbrev pub shown_hold : Option Moment → Option ℕ
shown_hold None = None
shown_hold (Some at) = Some at.0

module _ {A : Type 0} where
  abbrev pub sizes_of : Held A → Sizes
  sizes_of h = record { szx = h.szx; limit = h.limit }

  abbrev pub own_of : Held A → Own
  own_of h =
      record {
        clock = h.clock.0;
        sizes = sizes_of h;
        taken = h.taken;
        queue = map shown_queued h.operations.queue;
        running = option_map shown_operation h.operations.running;
        observations = map shown_observation h.operations.live;
        sent = h.sent.0;
        hold = shown_hold h.hold;
        reports = map shown_reported h.reports.items;
        asked = shown_asked h.asked;
      }

-- .. and with its exchanges
abbrev pub seen : {A H X : Type 0} → Parts A H X → State
seen p = left (own_of p.held) p.asker.state
