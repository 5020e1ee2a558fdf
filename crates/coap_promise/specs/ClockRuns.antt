-- Runs by two clocks that differ, with the datagrams that the ends give out in them, and a run by clocks that don't
-- keep pace (RFC 7252, sections 4.2, 4.5 and 4.8.2; RFC 7641). Each has the newest event, datagram or moment first.
use Rattle.std.specs.Prelude.{◌≡◌, ◌≤◌, ℕ, ◌+◌, nat_le, Some, List, [], ◌∷◌, ◌++◌, codes, length, if◌then◌else◌}
use Rattle.coap_types.specs.Past.{Always, all_of}
use Rattle.coap_types.specs.declared.request.Method.TheVariants.{Put}
use Rattle.coap_layer.specs.Clocks.{max_gain}
use Rattle.coap_client.specs.Trace.{Request, Body, Value}
use Rattle.coap_client_laws.specs.Follows.Gives as C
use Rattle.coap_promise.specs.Applied.{AtMostOnce}
use Rattle.coap_promise.specs.Clocks.{Clocks, IsLegal, Legal}
use Rattle.coap_record.specs.Events.{client_end, Config, Calls, Observes, TickClient, TickServer, Deliver, Event}
use Rattle.coap_record.specs.Legal as one
use Rattle.coap_record.specs.Legal.{IsConfig}
use Rattle.coap_record.specs.LegalEvents.{event}
use Rattle.coap_promise.specs.LateRuns.{key}
use Rattle.coap_promise.specs.LegalRuns.{config, from_client, from_server, reported, token, tag, plain, t, puts, get}
use Rattle.coap_promise.specs.LegalRuns.{empty_ack}
use Rattle.coap_promise.specs.ObservationRuns.{observe_bytes, first_bytes, second_bytes}
use Rattle.coap_record.specs.Record.{Given, given_in, RecordOf, Turn, entries_of, client_of}
use Rattle.coap_promise.specs.Words.{changes_in}

-- what a clock shows at the event of this number, where it shows these moments; behind the last event it stands still
abbrev pub shows : List ℕ → ℕ → ℕ
shows [] n = 0
shows (at ∷ past) n = if nat_le (length past) n then at else shows past n

-- .. what one shows that is so much ahead, and from this event on so much more
abbrev pub leaps : List ℕ → (ahead by from n : ℕ) → ℕ
leaps moments ahead by from n = ahead + (shows moments n + (if nat_le from n then by else 0))

-- A run of these events is legal by these clocks, and in it the ends give out these datagrams.
pub record RunsBy (c : Clocks) (config : Config) (events : List Event) (given : List Given) : Type 0 where
  pub turns : List Turn
  pub made : RecordOf config events turns
  pub legal : Legal c config turns
  pub gives : all_of (given_in config.addresses) turns ≡ given

-- The server's clock is an hour ahead, and makes a step of 5,000 ms behind the registration. A client observes, takes a
-- notification, and gets what it was told.

abbrev pub hour : ℕ
hour = 3600000

abbrev pub hour_ahead : Clocks
hour_ahead =
    let moments = 8 ∷ 7 ∷ 6 ∷ 6 ∷ 5 ∷ 4 ∷ 3 ∷ 3 ∷ 2 ∷ 1 ∷ 0 ∷ 0 ∷ 0 ∷ [] in
    record { client = shows moments; server = leaps moments hour max_gain 5 }

abbrev pub tells : List Event
tells =
    event 8 (Deliver 5) ∷
    event (hour + 5007) (Deliver 4) ∷
    event 6 TickClient ∷
    event 6 (Calls get) ∷
    event (hour + 5005) (Deliver 3) ∷
    event 4 (Deliver 2) ∷
    event (hour + 5003) TickServer ∷
    event (hour + 5003) (puts (codes "b")) ∷
    event 2 (Deliver 1) ∷
    event (hour + 1) (Deliver 0) ∷
    event 0 TickClient ∷
    event 0 (Observes t) ∷
    event hour (puts (codes "a")) ∷
    []

-- the second request, and its piggybacked response: as those of the first run, with Message ID 1, token 1 and version 2
abbrev pub get_bytes : List ℕ
get_bytes = 0x48 ∷ 1 ∷ 0 ∷ 1 ∷ key 1 ++ 0xb1 ∷ codes "t"

abbrev pub content_bytes : List ℕ
content_bytes = 0x68 ∷ 0x45 ∷ 0 ∷ 1 ∷ key 1 ++ 0x48 ∷ tag 2 ++ 0x80 ∷ 0xff ∷ codes "b"

pub record HourAhead : Type 0 where
  pub run : RunsBy hour_ahead config tells
      (from_server (hour + 5007) client_end content_bytes ∷ from_client 6 get_bytes ∷ from_client 4 empty_ack ∷
      from_server (hour + 5003) client_end second_bytes ∷ from_server (hour + 1) client_end first_bytes ∷
      from_client 0 observe_bytes ∷ [])
  pub reports : C.given (client_of (entries_of run.turns))
      ≡ reported (Value 1 (Some (tag 1)) (Some plain) (codes "a")) ∷ reported
      (Value 2 (Some (tag 2)) (Some plain) (codes "b")) ∷ record
      { number = 1; report = Body (Some (tag 2)) (Some plain) (codes "b") } ∷ []
  -- by no one clock it is legal
  pub never : one.Legal config run.turns → ⊥

-- Pace is needed. The server's clock gains 100,001 ms, while the client's shows 147,000 more: the last copy of a PUT
-- comes at the last moment, 1 ms after the server forgot the first one, and is applied anew (RFC 7252, sections 4.5
-- and 4.8.2).

abbrev pub strays : Clocks
strays =
    let moments = 147000 ∷ 47000 ∷ 0 ∷ 0 ∷ 0 ∷ [] in
    record { client = shows moments; server = leaps moments 0 100001 4 }

abbrev pub put : Request
put = record get { method = Put; body = codes "a" }

abbrev pub puts_twice : List Event
puts_twice =
    event 247001 (Deliver 2) ∷
    event 47000 TickClient ∷
    event 0 (Deliver 0) ∷
    event 0 TickClient ∷
    event 0 (Calls put) ∷
    []

abbrev pub put_bytes : List ℕ
put_bytes = 0x48 ∷ 3 ∷ 0 ∷ 0 ∷ token ++ 0xb1 ∷ codes "t" ++ 0xff ∷ codes "a"

abbrev pub created_bytes : List ℕ
created_bytes = 0x68 ∷ 0x41 ∷ 0 ∷ 0 ∷ token

abbrev pub changed_bytes : List ℕ
changed_bytes = 0x68 ∷ 0x44 ∷ 0 ∷ 0 ∷ token

-- neither clock falls; the client's gains nothing on the server's, and the server's so much on the client's, at most
pub record GainsInAll (gain : ℕ) (c : Clocks) : Type 0 where
  pub client : (i j : ℕ) → i ≤ j → c.client i ≤ c.client j
  pub server : (i j : ℕ) → i ≤ j → c.server i ≤ c.server j
  pub behind : (i j : ℕ) → i ≤ j → c.client j + c.server i ≤ c.client i + c.server j
  pub ahead : (i j : ℕ) → i ≤ j → c.server j + c.client i ≤ c.server i + c.client j + gain

pub record PutsTwice : Type 0 where
  pub turns : List Turn
  pub made : RecordOf config puts_twice turns
  pub range : IsConfig config
  -- each event is legal by these clocks, by which no datagram is late, and pace alone is not kept
  pub events : Always (IsLegal config.addresses strays) turns
  pub gains : GainsInAll 100001 strays
  pub gives : all_of (given_in config.addresses) turns
      ≡ from_server 247001 client_end changed_bytes ∷ from_client 47000 put_bytes ∷
      from_server 0 client_end created_bytes ∷ from_client 0 put_bytes ∷ []
  pub twice : AtMostOnce config (entries_of turns) → ⊥
  pub changes : changes_in config (entries_of turns) ≡ 2
