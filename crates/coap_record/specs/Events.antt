-- One client, one server, strangers, and the datagrams between them: what happens (RFC 7252, sections 4 and 5; RFC
-- 7641; RFC 7959).
use Rattle.std.specs.Prelude.{ℕ, List, [], ◌∷◌, Option}
use Rattle.coap_types.specs.declared.endpoint.Endpoint.{Endpoint}
use Rattle.coap_layer.specs.declared.setup.Setup.{Setup}
use Rattle.coap_block.specs.Sizes.{Sizes}
use Rattle.coap_resource.specs.Limits.{Limits}
use Rattle.coap_client.specs.Trace.{Request}
use Rattle.coap_server.specs.Trace.{Delay}
use Rattle.coap_record.specs.declared.addresses.Addresses.{Addresses}

-- the addresses that the ends have where none are chosen
abbrev pub localhost : List ℕ
localhost = 127 ∷ 0 ∷ 0 ∷ 1 ∷ []

abbrev pub client_end : Endpoint
client_end = record { ip = localhost; port = 40001 }

abbrev pub server_end : Endpoint
server_end = record { ip = localhost; port = 5683 }

abbrev pub usual_addresses : Addresses
usual_addresses = record { client = client_end; server = server_end }

-- at which addresses the ends stand; with which words, numbers of remembered messages, sizes of blocks and limits of
-- bodies they begin; how many changes a window takes, and after which version the server's versions begin; the delays
-- of paths, and the paths that are plain
pub record Config : Type 0 where
  pub addresses : Addresses
  pub client_setup : Setup
  pub client_sizes : Sizes
  pub server_setup : Setup
  pub server_szx : ℕ
  pub limits : Limits
  pub delays : List Delay
  pub plains : List (List (List ℕ))

-- A call of the client, an observation, its cancel, and its end without a message; a local change of the server, and a
-- removal; the ticks of an end; a datagram that was given out is delivered, by its number; a datagram of a stranger.
pub data What : Type 0 where
  Calls : (request : Request) → What
  Observes : (path : List (List ℕ)) → What
  Cancels : (number : ℕ) → What
  Forgets : (number : ℕ) → What
  Sets : (path : List (List ℕ)) (format : Option ℕ) (body : List ℕ) → What
  Removes : (path : List (List ℕ)) → What
  TickClient : What
  TickServer : What
  Deliver : (number : ℕ) → What
  StrangerToClient : (from : Endpoint) (bytes : List ℕ) → What
  StrangerToServer : (from : Endpoint) (bytes : List ℕ) → What

-- at a moment in milliseconds, with a word
pub record Event : Type 0 where
  pub at : ℕ
  pub word : ℕ
  pub what : What
