-- What notifications make of a client (RFC 7641, sections 3.2 to 3.6; RFC 7959, section 2.6).
use Rattle.std.specs.Prelude.{ℕ, ◌==◌, not, true, false, Option, Some, None, List, [], ◌∷◌, ◌++◌, map, if◌then◌else◌}
use Rattle.coap_codec.specs.Message.{Message}
use Rattle.coap_block.specs.Sizes.{Sizes}
use Rattle.coap_block.specs.FetchStep as F
use Rattle.coap_observe.specs.Newer.{is_newer, arrived}
use Rattle.coap_client.specs.Trace.{Report, Ended, Reported}
use Rattle.coap_client.specs.Own.{Notified, Observation, Own}
use Rattle.coap_client.specs.Observations.{observation_of, observation_with, dropped, over}
use Rattle.coap_client.specs.Responses.{is_notification, sequence_in, part}
use Rattle.coap_client.specs.Fetching.{value, rest}
use Rattle.coap_client.specs.Effects.{Deed, Rests, Keeps, Releases, Effect, stays, ends, of}

-- a notification's own part is the first
abbrev pub first_value : ℕ → Sizes → Message → Option Reported
first_value number sizes m = value number (sequence_in m) (F.start sizes 0) m (part (F.start sizes 0) m)

abbrev pub first_rest : Sizes → Message → Option Notified
first_rest sizes m = rest (sequence_in m) (F.start sizes 0) m (part (F.start sizes 0) m)

-- An observation is over, with a last report.

abbrev pub releases : Option Observation → Deed
releases None = Rests
releases (Some o) = Releases o.token

abbrev pub is_over : ℕ → Report → Own → Effect
is_over number report s = record {
  own = over number s;
  report = of number report;
  deed = releases (observation_of number s.observations);
}

-- The answer to a registration counts as a notification, and where it is one the observation is live.

abbrev pub begun : ℕ → List (List ℕ) → Sizes → ℕ → Message → Observation
begun number path sizes at m =
    record {
      number = number;
      path = path;
      token = m.token;
      watch = arrived (record { clock = 0; mark = None }) (sequence_in m) at true;
      rest = first_rest sizes m;
    }

abbrev pub registered : ℕ → List (List ℕ) → Own → ℕ → Message → Effect
registered number path s at m =
    if is_notification m then record {
      own = record s { running = None; observations = s.observations ++ begun number path s.sizes at m ∷ [] };
      report = first_value number s.sizes m;
      deed = Keeps m.token;
    } else ends (of number (Ended m.code)) s

-- A later notification: one that is no 2.05 with Observe ends the observation, whatever its number; a newer one
-- replaces what is fetched for an older one; of another one only the moment counts.

abbrev pub renewed : Observation → Own → ℕ → Message → Effect
renewed o s at m = record {
  own = record s {
    running = dropped o.number s.running;
    observations = map (λ (p : Observation). if p.number == o.number then
        record p
        { watch = arrived p.watch (sequence_in m) at true; rest = first_rest s.sizes m } else p) s.observations;
  };
  report = first_value o.number s.sizes m;
  deed = Rests;
}

abbrev pub passed : Observation → Own → ℕ → Message → Own
passed o s at m = record s {
  observations = map
      (λ (p : Observation). if p.number == o.number then
      record p { watch = arrived p.watch (sequence_in m) at false } else p) s.observations;
}

abbrev pub noticed_by : Option Observation → Own → ℕ → Message → Effect
noticed_by None s at m = stays s
noticed_by (Some o) s at m =
    if not (is_notification m) then is_over o.number (Ended m.code) s
    else (if is_newer o.watch.mark (sequence_in m) at then renewed o s at m
    else stays (passed o s at m))

abbrev pub noticed : Own → ℕ → Message → Effect
noticed s at m = noticed_by (observation_with m.token s.observations) s at m
