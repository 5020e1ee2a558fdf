-- Words of the legal runs of several clients, each with a clock of its own. Each list has the newest first.
use Rattle.std.specs.Prelude.{◌≡◌, ℕ, ◌+◌, List, [], if◌then◌else◌}
use Rattle.coap_types.specs.Past.{all_of}
use Rattle.coap_types.specs.SameEndpoint.{same_endpoint}
use Rattle.coap_types.specs.declared.endpoint.Endpoint.{Endpoint}
use Rattle.coap_layer.specs.Machine.State.{usual}
use Rattle.coap_client.specs.Trace.{Report, Reported}
use Rattle.coap_client_laws.specs.Follows.Gives as C
use Rattle.coap_record.specs.Events.{localhost, client_end, server_end}
use Rattle.coap_record.specs.Record.{Given}
use Rattle.coap_promise.specs.ClockRuns.{shows}
use Rattle.coap_promise.specs.LegalRuns.{sizes, limits}
use Rattle.coap_many.specs.Clients.{Client, Config}
use Rattle.coap_many.specs.Clocks.{Clocks}
use Rattle.coap_many.specs.Entries.{Turn, entries_of, given_in, client_of}
use Rattle.coap_many.specs.Events.{Event, What}
use Rattle.coap_many.specs.Legal.{Legal}
use Rattle.coap_many.specs.Record.{RecordOf}

-- clients that begin with one word, so that they choose the same Message IDs and tokens, and their server

abbrev pub second_end : Endpoint
second_end = record { ip = localhost; port = 40002 }

abbrev pub third_end : Endpoint
third_end = record { ip = localhost; port = 40003 }

abbrev pub a_client : Endpoint → Client
a_client at = record { at = at; setup = usual 0; sizes = sizes }

abbrev pub first : Client
first = a_client client_end

abbrev pub second : Client
second = a_client second_end

abbrev pub third : Client
third = a_client third_end

abbrev pub with_clients : List Client → Config
with_clients clients = record {
  server = server_end;
  setup = usual 0;
  szx = 6;
  limits = limits;
  delays = [];
  plains = [];
  clients = clients;
}

abbrev pub event : ℕ → What → Event
event at what = record { at = at; word = 0; what = what }

-- The clocks of the first client and of the server show these moments at the events of a run. The second client's shows
-- 1,000,000 ms more all the while, and the third's 2,000,000 ms: nothing is asked of the clocks of two clients.

abbrev pub ahead : ℕ
ahead = 1000000

abbrev pub far_ahead : ℕ
far_ahead = 2000000

abbrev pub more : Endpoint → ℕ
more who = if same_endpoint who second_end then ahead else if same_endpoint who third_end then far_ahead else 0

abbrev pub clocks_of : List ℕ → Clocks
clocks_of moments = record { clients = λ who n. more who + shows moments n; server = shows moments }

abbrev pub to_server : ℕ → Endpoint → List ℕ → Given
to_server at from bytes = record { at = at; from = from; packet = record { to = server_end; bytes = bytes } }

-- A run of these events is legal by these clocks, and in it the ends give out these datagrams.
pub record Runs (config : Config) (moments : List ℕ) (events : List Event) (given : List Given) : Type 0 where
  pub turns : List Turn
  pub made : RecordOf config events turns
  pub legal : Legal (clocks_of moments) config turns
  pub gives : all_of (given_in config) turns ≡ given

-- a report of the call of this number, and all that a client was told, the oldest first

abbrev pub told : ℕ → Report → Reported
told number report = record { number = number; report = report }

abbrev pub told_to : Endpoint → List Turn → List Reported
told_to who turns = C.given (client_of who (entries_of turns))
