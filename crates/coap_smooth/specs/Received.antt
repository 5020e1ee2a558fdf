-- A datagram that an end is fed, its message layer receives at that moment.
use Rattle.std.specs.Prelude.{◌≡◌, ℕ, List}
use Rattle.coap_types.specs.Past.{Ever}
use Rattle.coap_types.specs.declared.endpoint.Endpoint.{Endpoint}
use Rattle.coap_layer.specs.Trace as L
use Rattle.coap_client.specs.Trace as C
use Rattle.coap_server.specs.Trace as S
use Rattle.coap_record.specs.Events.{Config}
use Rattle.coap_promise.specs.Hops.{client_adds, server_adds}
use Rattle.coap_record.specs.Legal.{NotBefore}
use Rattle.coap_record.specs.Record.{Turn, FeedsClient, FeedsServer, entries_of, client_of, server_trace}

-- the layer receives these bytes from there at this moment
pub record ReceivesAt (t : ℕ) (from : Endpoint) (bytes : List ℕ) (e : L.Entry) : Type 0 where
  pub call : e.call ≡ L.Receive from bytes
  pub at : e.at ≡ t

-- .. behind the record of a legal run, at a moment that is not before its last
abbrev pub AreReceived : Config → List Turn → Type 0
AreReceived config turns =
    (t : ℕ) (word : ℕ) (from : Endpoint) (bytes : List ℕ) → NotBefore turns t
    → ((c : S.Call) → FeedsServer t word from bytes c
    → Ever (ReceivesAt t from bytes) (server_adds config (server_trace config (entries_of turns)) c))
    × ((c : C.Call) → FeedsClient t word from bytes c
    → Ever (ReceivesAt t from bytes) (client_adds config (client_of (entries_of turns)) c))
