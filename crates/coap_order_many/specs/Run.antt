-- A run of any number of clients and a server whose calls are made in any order: what each end was asked, the newest
-- first, in the order of the run.
use Rattle.std.specs.Prelude.{◌≡◌, ◌⊎◌, ◌≤◌, ◌<◌, ◌^◌, ℕ, ◌+◌, if◌then◌else◌, List, [], ◌∷◌, length}
use Rattle.coap_types.specs.Past.{Always, Ever, Sometime}
use Rattle.coap_types.specs.declared.endpoint.Endpoint.{Endpoint}
use Rattle.coap_layer.specs.Trace.{Packet}
use Rattle.coap_client.specs.Law.{ClientLaw}
use Rattle.coap_client.specs.Trace as C
use Rattle.coap_server.specs.Law.{ServerLaw}
use Rattle.coap_server.specs.Led.{state_left}
use Rattle.coap_server.specs.Trace as S
use Rattle.coap_record.specs.Legal.{max_delivery}
use Rattle.coap_many.specs.Clients.{Client, Config, IsClient, IsEnd, IsOfClient, world_of}
use Rattle.coap_many.specs.Clocks.{AreClocks, Clocks}
use Rattle.coap_many.specs.Entries.{Entry, OfClient, OfServer, client_of, server_trace}
use Rattle.coap_many.specs.Legal.{IsConfig}
use Rattle.coap_order.specs.Calls.{ClientMay, ServerMay}
use Rattle.coap_order.specs.Inputs.{is_client_input, is_server_input}
use Rattle.coap_order.specs.Run.{behind, client_waits}

module _ (config : Config) where
  -- each end stands in its law
  pub record RunOf (run : List Entry) : Type 0 where
    pub clients : (k : Client) → IsClient config k → ClientLaw config.server k.sizes k.setup (client_of k.at run)
    pub server : ServerLaw config.limits config.szx config.setup (server_trace config run)

  -- What an input makes: what waits behind it, behind what waited before.

  abbrev pub made_by_client : Client → List C.Call → C.Call → List Packet
  made_by_client k past call = if is_client_input call
      then behind (client_waits (world_of config k) past) (client_waits (world_of config k) (call ∷ past)) else []

  abbrev pub server_waits : List S.Call → List Packet
  server_waits t = (state_left config.limits config.szx config.setup t).layer.queue

  abbrev pub made_by_server : List S.Call → S.Call → List Packet
  made_by_server past call = if is_server_input call then behind (server_waits past) (server_waits
      (call ∷ past)) else []

  module _ (c : Clocks) where
    -- this datagram is made here, and may come at this instant: at most 100,000 ms later, by the clock of the end that
    -- made it

    abbrev pub MadeByClient : Client → ℕ → Packet → List Entry → Entry → Type 0
    MadeByClient k n p past (OfServer call) = ⊥
    MadeByClient k n p past (OfClient who call) = (who ≡ k.at)
        × Ever (λ q. q ≡ p) (made_by_client k (client_of k.at past) call)
        × (c.clients k.at n ≤ c.clients k.at (length past) + max_delivery)

    abbrev pub MadeByServer : ℕ → Packet → List Entry → Entry → Type 0
    MadeByServer n p past (OfClient who call) = ⊥
    MadeByServer n p past (OfServer call) = Ever (λ q. q ≡ p) (made_by_server (server_trace config past) call)
        × (c.server n ≤ c.server (length past) + max_delivery)

    -- What is fed was made by the end whose address it comes from, for the end that it is fed to; or it is a
    -- stranger's, who has no end's address.
    abbrev pub MayFeed : List Entry → Endpoint → Endpoint → List ℕ → Type 0
    MayFeed past to from bytes = ((k : Client) × IsClient config k × (k.at ≡ from)
        × Sometime (MadeByClient k (length past) (record { to = to; bytes = bytes })) past)
        ⊎ (((from ≡ config.server) × Sometime (MadeByServer (length past) (record { to = to; bytes = bytes })) past)
        ⊎ (IsEnd config from → ⊥))

    abbrev pub MayMake : List Entry → Entry → Type 0
    MayMake past (OfClient who call) = IsOfClient config who × (c.clients who (length past) < 2 ^ 64)
        × ClientMay (c.clients who (length past)) (MayFeed past who) call
    MayMake past (OfServer call) = (c.server (length past) < 2 ^ 64)
        × ServerMay (c.server (length past)) (MayFeed past config.server) call

    pub record LegalRun (run : List Entry) : Type 0 where
      pub clocks : AreClocks config c
      pub range : IsConfig config
      pub calls : Always MayMake run
