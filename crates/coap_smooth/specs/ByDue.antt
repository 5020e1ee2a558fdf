-- When an end has nothing to do, by what its `due` tells: of the state that an end is in, `due` says of each tick
-- whether it does something (RFC 7252, sections 4.2, 4.7 and 5.2.2; RFC 7641, section 4.5).
use Rattle.std.specs.Prelude.{ℕ, true, false, List}
use Rattle.coap_client.specs.Led as C
use Rattle.coap_client.specs.Turns.Due as client
use Rattle.coap_server.specs.Led as S
use Rattle.coap_server.specs.Turns.WhenDue as server
use Rattle.coap_record.specs.Events.{Config}
use Rattle.coap_record.specs.Record.{Turn, entries_of, client_of, server_trace}
use Rattle.coap_smooth.specs.Smooth.{ClientRests, ServerRests}

module _ (config : Config) (turns : List Turn) where
  -- The client is in a state to which its calls led. Where each tick then does nothing (clauses `none` and `some` of
  -- its `due`), it has nothing to do; and where each does something (clause `does`), it has.
  abbrev pub ClientByDue : Type 0
  ClientByDue =
      (s : C.State)
      → C.Led config.addresses.server config.client_sizes config.client_setup (client_of (entries_of turns)) s
      → (now : ℕ) → (client.TicksDo false s now → ClientRests config turns now)
      × (client.TicksDo true s now → ClientRests config turns now → ⊥)

  -- .. the server
  abbrev pub ServerByDue : Type 0
  ServerByDue =
      (s : S.State)
      → S.Led config.limits config.server_szx config.server_setup (server_trace config (entries_of turns)) s
      → (now : ℕ) → (server.TicksDo false s now → ServerRests config turns now)
      × (server.TicksDo true s now → ServerRests config turns now → ⊥)
