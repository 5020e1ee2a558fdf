-- What the message layers of the two ends do in a run, in one order: the newest first (RFC 7252, section 4).
use Rattle.std.specs.Prelude.{◌≡◌, ◌⊎◌, ℕ, List, [], ◌∷◌, ◌++◌, map}
use Rattle.coap_types.specs.Past.{Ever, all_of}
use Rattle.coap_layer.specs.Channel.{Hop, Near, Far, OnNear, OnFar}
use Rattle.coap_layer.specs.Sends.{IsIn}
use Rattle.coap_record.specs.Events.{Config}
use Rattle.coap_record.specs.Record.{Given, Entry, OfClient, OfServer, client_of, server_trace, Turn, given_in}
use Rattle.coap_record.specs.Record.{entries_of}
use Rattle.coap_layer.specs.Machine.State.{start}
use Rattle.coap_layer.specs.Machine.Steps.{Asked, left_after, entries}
use Rattle.coap_exchange.specs.Adds.{asked_by_server}
use Rattle.coap_layer.specs.Trace as L
use Rattle.coap_exchange.specs.AnswererLaw as answerer
use Rattle.coap_client_laws.specs.Follows.Adds as adds
use Rattle.coap_client.specs.Trace as C
use Rattle.coap_server.specs.Asks as asks
use Rattle.coap_server.specs.Law as server
use Rattle.coap_server.specs.Trace as S
use Rattle.coap_record.specs.declared.addresses.Addresses.{Addresses}

-- the same hops, with the server's layer as the near one
abbrev pub across : List Hop → List Hop
across [] = []
across (Near e ∷ past) = Far e ∷ across past
across (Far e ∷ past) = Near e ∷ across past

-- the layer sends this datagram at this moment
pub record SendsAt (t : ℕ) (p : L.Packet) (e : L.Entry) : Type 0 where
  pub out : IsIn p e.out
  pub at : e.at ≡ t

-- What an end gives out was sent by its layer at that very moment.
abbrev pub SentIn : Addresses → List Hop → Given → Type 0
SentIn addresses hops g = ((g.from ≡ addresses.client) × Ever (OnNear (SendsAt g.at g.packet)) hops)
    ⊎ ((g.from ≡ addresses.server) × Ever (OnFar (SendsAt g.at g.packet)) hops)

module _ (config : Config) where
  -- what a call of the client asks of its layer, and the entries that it adds to it
  abbrev pub client_asks : List C.Call → C.Call → List Asked
  client_asks past c = adds.call_asks config.addresses.server config.client_sizes config.client_setup past c

  abbrev pub client_asked : List C.Call → List Asked
  client_asked past = adds.all_asked config.addresses.server config.client_sizes config.client_setup past

  abbrev pub client_adds : List C.Call → C.Call → List L.Entry
  client_adds past c = adds.call_adds config.addresses.server config.client_sizes config.client_setup past c

  -- .. and of the server
  abbrev pub server_asks : List S.Call → S.Call → List Asked
  server_asks past c = asked_by_server (server.lower_of config.limits config.server_szx past)
      (asks.lower (server.own_of config.limits config.server_szx past) c)

  abbrev pub server_asked : List S.Call → List Asked
  server_asked past = answerer.lower_of (server.lower_of config.limits config.server_szx past)

  abbrev pub server_adds : List S.Call → S.Call → List L.Entry
  server_adds past c = entries (left_after (start config.server_setup) (server_asked past)) (server_asks past c)

  -- the client's layer is the near one, the server's the far one
  abbrev pub hops_at : List Entry → Entry → List Hop
  hops_at past (OfClient c) = map Near (client_adds (client_of past) c)
  hops_at past (OfServer c) = map Far (server_adds (server_trace config past) c)

  abbrev pub hops_in : List Entry → List Hop
  hops_in [] = []
  hops_in (e ∷ past) = hops_at past e ++ hops_in past

  abbrev pub hops_of : List Turn → List Hop
  hops_of turns = hops_in (entries_of turns)

-- What an end gives out was sent by its layer at that very moment.
abbrev pub TakenAtOnce : Addresses → List Hop → List Turn → Type 0
TakenAtOnce addresses hops turns = (g : Given) → Ever (λ h. h ≡ g) (all_of (given_in addresses) turns)
    → SentIn addresses hops g
