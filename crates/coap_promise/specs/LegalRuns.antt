-- Legal runs of a few events, with the datagrams that the ends give out in them (RFC 7252, sections 4 and 5): the laws
-- of the whole world are laws of something. Each has the newest event, or datagram, first.
use Rattle.std.specs.Prelude.{◌≡◌, ◌≤◌, ℕ, false, Option, Some, None, List, [], ◌∷◌, ◌++◌, codes}
use Rattle.coap_types.specs.Past.{all_of}
use Rattle.coap_types.specs.declared.endpoint.Endpoint.{Endpoint}
use Rattle.coap_types.specs.declared.request.Method.TheVariants.{Get, Post}
use Rattle.coap_layer.specs.Machine.State.{usual}
use Rattle.coap_block.specs.Sizes.{Sizes, usual_sizes}
use Rattle.coap_resource.specs.Limits.{Limits, usual_limits}
use Rattle.coap_resource.specs.declared.tally.TheConstants.{MAX_CHANGES_PER_WINDOW as max_changes}
use Rattle.coap_client.specs.Trace.{Request, Report, Body, Timeout, Reported}
use Rattle.coap_client_laws.specs.Follows.Gives as C
use Rattle.coap_server.specs.Trace.{Delay}
use Rattle.coap_record.specs.Events.{client_end, server_end, usual_addresses, Config, What, Calls, Sets, TickClient}
use Rattle.coap_record.specs.Events.{TickServer, Deliver, Event}
use Rattle.coap_record.specs.Legal.{Legal}
use Rattle.coap_record.specs.LegalEvents.{event, comes_at}
use Rattle.coap_record.specs.Record.{Given, Turn, given_in, RecordOf, entries_of, client_of}
use Rattle.coap_promise.specs.Words.{holds_at}

-- blocks of 1,024 bytes, bodies of at most 65,536, and as many changes a window as there may be

abbrev pub sizes : Sizes
sizes = usual_sizes 6

abbrev pub limits : Limits
limits = usual_limits max_changes

-- with words 0
abbrev pub with_delays : List Delay → Config
with_delays delays = record {
  addresses = usual_addresses;
  client_setup = usual 0;
  client_sizes = sizes;
  server_setup = usual 0;
  server_szx = 6;
  limits = limits;
  delays = delays;
  plains = [];
}

abbrev pub config : Config
config = with_delays []

abbrev pub from_client : ℕ → List ℕ → Given
from_client at bytes = record { at = at; from = client_end; packet = record { to = server_end; bytes = bytes } }

abbrev pub from_server : ℕ → Endpoint → List ℕ → Given
from_server at to bytes = record { at = at; from = server_end; packet = record { to = to; bytes = bytes } }

-- A run of these events is legal, and in it the ends give out these datagrams.
pub record Runs (config : Config) (events : List Event) (given : List Given) : Type 0 where
  pub turns : List Turn
  pub made : RecordOf config events turns
  pub legal : Legal config turns
  pub gives : all_of (given_in config.addresses) turns ≡ given

-- a report of the first call, or observation
abbrev pub reported : Report → Reported
reported report = record { number = 0; report = report }

-- all the reports in it, the oldest first, and what its server holds at last
module _ {config : Config} {events : List Event} {given : List Given} (run : Runs config events given) where
  abbrev pub Reports : List Reported → Type 0
  Reports reports = C.given (client_of (entries_of run.turns)) ≡ reports

  abbrev pub Holds : List (List ℕ) → ℕ → Option ℕ → List ℕ → Type 0
  Holds path version format body = holds_at config path (entries_of run.turns)
      ≡ Some (record { version = version; format = format; body = body })

-- 8 bytes, all 0: the first token of a client of word 0
abbrev pub token : List ℕ
token = 0 ∷ 0 ∷ 0 ∷ 0 ∷ 0 ∷ 0 ∷ 0 ∷ 0 ∷ []

-- the entity-tag of a small version
abbrev pub tag : ℕ → List ℕ
tag version = 0 ∷ 0 ∷ 0 ∷ 0 ∷ 0 ∷ 0 ∷ 0 ∷ version ∷ []

-- the format text/plain
abbrev pub plain : ℕ
plain = 0

-- the path of most of the runs
abbrev pub t : List (List ℕ)
t = codes "t" ∷ []

-- a change of what it holds

abbrev pub puts : List ℕ → What
puts body = Sets t (Some plain) body

abbrev pub hi : What
hi = puts (codes "hi")

-- The server holds `hi` at `t`; a client gets it (RFC 7252, section 5.2.1).

abbrev pub get : Request
get = record {
  method = Get;
  path = t;
  format = None;
  body = [];
  etags = [];
  if_match = [];
  if_none_match = false;
  accept = None;
}

abbrev pub gets : List Event
gets = event 9 (Deliver 1) ∷ event 5 (Deliver 0) ∷ event 0 TickClient ∷ event 0 (Calls get) ∷ event 0 hi ∷ []

-- a CON with Uri-Path `t`, and its piggybacked response: ETag 1, Content-Format 0 as an empty value, and the body
abbrev pub get_bytes : List ℕ
get_bytes = 0x48 ∷ 1 ∷ 0 ∷ 0 ∷ token ++ 0xb1 ∷ codes "t"

abbrev pub content_bytes : List ℕ
content_bytes = 0x68 ∷ 0x45 ∷ 0 ∷ 0 ∷ token ++ 0x48 ∷ tag 1 ++ 0x80 ∷ 0xff ∷ codes "hi"

pub record Gets : Type 0 where
  pub run : Runs config gets (from_server 5 client_end content_bytes ∷ from_client 0 get_bytes ∷ [])
  pub reports : Reports run (reported (Body (Some (tag 1)) (Some plain) (codes "hi")) ∷ [])

-- A datagram that was given out at 0 comes so late: the server holds nothing at `t`, and answers 4.04.

abbrev pub not_found_bytes : List ℕ
not_found_bytes = 0x68 ∷ 0x84 ∷ 0 ∷ 0 ∷ token

abbrev pub MayComeTill : ℕ → Type 0
MayComeTill last = (at : ℕ) → at ≤ last → Runs config (comes_at at get)
    (from_server at client_end not_found_bytes ∷ from_client 0 get_bytes ∷ [])

-- The server answers requests to `t` 1,000 ms later: an Empty acknowledgement, a CON of its own with the response, and
-- the Empty acknowledgement of that (RFC 7252, section 5.2.2).

abbrev pub slow : Config
slow = with_delays (record { path = t; ms = 1000 } ∷ [])

abbrev pub defers : List Event
defers =
    event 1000 (Deliver 3) ∷
    event 1000 (Deliver 2) ∷
    event 1000 TickServer ∷
    event 0 (Deliver 1) ∷
    event 0 (Deliver 0) ∷
    event 0 TickClient ∷
    event 0 (Calls get) ∷
    event 0 hi ∷
    []

abbrev pub empty_ack : List ℕ
empty_ack = 0x60 ∷ 0 ∷ 0 ∷ 0 ∷ []

abbrev pub separate_bytes : List ℕ
separate_bytes = 0x48 ∷ 0x45 ∷ 0 ∷ 0 ∷ token ++ 0x48 ∷ tag 1 ++ 0x80 ∷ 0xff ∷ codes "hi"

pub record Defers : Type 0 where
  pub run : Runs slow defers (from_client 1000 empty_ack ∷ from_server 1000 client_end separate_bytes ∷ from_server 0
      client_end empty_ack ∷ from_client 0 get_bytes ∷ [])
  pub reports : Reports run (reported (Body (Some (tag 1)) (Some plain) (codes "hi")) ∷ [])

-- A POST is never acknowledged: it goes out five times, and Timeout is reported. That says nothing of the server: the
-- last copy comes later, and is applied (RFC 7252, sections 4.2 and 4.8.2).

abbrev pub log : List (List ℕ)
log = codes "log" ∷ []

abbrev pub post : Request
post = record get { method = Post; path = log; body = codes "a" }

abbrev pub times_out : List Event
times_out =
    event 130000 (Deliver 4) ∷
    event 62000 TickClient ∷
    event 30000 TickClient ∷
    event 14000 TickClient ∷
    event 6000 TickClient ∷
    event 2000 TickClient ∷
    event 0 TickClient ∷
    event 0 (Calls post) ∷
    event 0 (Sets log (Some plain) (codes "x")) ∷
    []

abbrev pub call_bytes : List ℕ
call_bytes = 0x48 ∷ 2 ∷ 0 ∷ 0 ∷ token ++ 0xb3 ∷ codes "log" ++ 0xff ∷ codes "a"

abbrev pub changed_bytes : List ℕ
changed_bytes = 0x68 ∷ 0x44 ∷ 0 ∷ 0 ∷ token

pub record TimesOut : Type 0 where
  pub run : Runs config times_out
      (from_server 130000 client_end changed_bytes ∷ from_client 30000 call_bytes ∷ from_client 14000 call_bytes ∷
      from_client 6000 call_bytes ∷
      from_client 2000 call_bytes ∷ from_client 0 call_bytes ∷ [])
  pub reports : Reports run (reported Timeout ∷ [])
  pub holds : Holds run log 2 (Some plain) (codes "xa")
