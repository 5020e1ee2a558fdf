-- A run of a client and a server whose calls are made in any order: what each end was asked, the newest first. A
-- datagram and a report may be taken at any moment, or never; inputs may come one behind the other; and the ends may be
-- looked at.
use Rattle.std.specs.Prelude.{◌≡◌, ◌≢◌, ◌⊎◌, ◌≤◌, ◌<◌, ℕ, ◌+◌, ◌^◌, List, []}
use Rattle.std.specs.Prelude.{◌∷◌, ◌++◌, drop, length, map, if◌then◌else◌}
use Rattle.coap_types.specs.Past.{Always, Ever}
use Rattle.coap_types.specs.declared.endpoint.Endpoint.{Endpoint}
use Rattle.coap_layer.specs.Trace.{Packet}
use Rattle.coap_client.specs.Law.{ClientLaw}
use Rattle.coap_client.specs.Led as C_led
use Rattle.coap_client.specs.Trace as C
use Rattle.coap_server.specs.Law.{ServerLaw}
use Rattle.coap_server.specs.Led as S_led
use Rattle.coap_server.specs.Trace as S
use Rattle.coap_record.specs.Events.{Config}
use Rattle.coap_record.specs.Legal.{IsConfig, max_delivery}
use Rattle.coap_record.specs.Record.{Entry, Given, OfClient, OfServer, client_of, server_trace}
use Rattle.coap_promise.specs.AtAnyTime.{Rise}
use Rattle.coap_promise.specs.Clocks.{AreClocks, Clocks, Shows}
use Rattle.coap_order.specs.Calls.{ClientMay, ServerMay}
use Rattle.coap_order.specs.Inputs.{is_client_input, is_server_input}

abbrev pub given_at : ℕ → Endpoint → List Packet → List Given
given_at at from packets = map (λ p. record { at = at; from = from; packet = p }) packets

abbrev pub behind : List Packet → List Packet → List Packet
behind before later = drop (length before) later

module _ (config : Config) where
  -- each end stands in its law
  pub record RunOf (run : List Entry) : Type 0 where
    pub client : ClientLaw config.addresses.server config.client_sizes config.client_setup (client_of run)
    pub server : ServerLaw config.limits config.server_szx config.server_setup (server_trace config run)

  -- what waits in an end to be taken

  abbrev pub client_waits : List C.Call → List Packet
  client_waits t =
      (C_led.state_left config.addresses.server config.client_sizes config.client_setup t).layer.layer.queue

  abbrev pub server_waits : List S.Call → List Packet
  server_waits t = (S_led.state_left config.limits config.server_szx config.server_setup t).layer.queue

  abbrev pub reports_wait : List C.Call → List C.Reported
  reports_wait t =
      (C_led.state_left config.addresses.server config.client_sizes config.client_setup t).own.reports

  -- What an input made: what waits behind it, behind what waited before. It is made at the moment that the end's clock
  -- shows then, and it does not matter when it is taken.

  module _ (c : Clocks) where
    -- .. at this instant
    abbrev pub made_at : ℕ → List Entry → Entry → List Given
    made_at n past (OfClient call) =
        if is_client_input call then given_at (c.client n) config.addresses.client
        (behind (client_waits (client_of past)) (client_waits (call ∷ client_of past))) else []
    made_at n past (OfServer call) =
        if is_server_input call then given_at (c.server n) config.addresses.server
        (behind (server_waits (server_trace config past)) (server_waits (call ∷ server_trace config past))) else []

    -- an instant is the number of the calls before
    abbrev pub made_by : List Entry → Entry → List Given
    made_by past e = made_at (length past) past e

    abbrev pub made : List Entry → List Given
    made [] = []
    made (e ∷ past) = made_by past e ++ made past

    -- How late it may be: at most so many milliseconds after it was made.
    module _ (late : ℕ) where
      -- A datagram is fed: one that the end whose address it comes from made, for the end that it is fed to, at most
      -- 100,000 ms before, by the clock of the end that made it; or a stranger's, who has no end's address.
      pub record WasMade (n : ℕ) (from to : Endpoint) (bytes : List ℕ) (g : Given) : Type 0 where
        pub by : g.from ≡ from
        pub packet : g.packet ≡ record { to = to; bytes = bytes }
        pub now : ℕ
        pub shown : Shows config.addresses c n from now
        pub young : now ≤ g.at + late

      abbrev pub MayFeed : List Entry → Endpoint → Endpoint → List ℕ → Type 0
      MayFeed past to from bytes = Ever (WasMade (length past) from to bytes) (made past)
          ⊎ ((from ≢ config.addresses.client) × (from ≢ config.addresses.server))

      abbrev pub MayCall : List Entry → C.Call → Type 0
      MayCall past call = ClientMay (c.client (length past)) (MayFeed past config.addresses.client) call

      abbrev pub MayServe : List Entry → S.Call → Type 0
      MayServe past call = ServerMay (c.server (length past)) (MayFeed past config.addresses.server) call

      abbrev pub MayMake : List Entry → Entry → Type 0
      MayMake past (OfClient call) = (c.client (length past) < 2 ^ 64) × MayCall past call
      MayMake past (OfServer call) = (c.server (length past) < 2 ^ 64) × MayServe past call

    pub record LegalRun (run : List Entry) : Type 0 where
      pub clocks : AreClocks c
      pub range : IsConfig config
      pub calls : Always (MayMake max_delivery) run

    -- .. however late, and however the clocks run, but for that neither falls (no moment has 65 bits)
    pub record AnyRun (run : List Entry) : Type 0 where
      pub rise : Rise c
      pub range : IsConfig config
      pub calls : Always (MayMake (2 ^ 64)) run
