-- An end to which nothing has happened, with the numbers of its configuration.
use Rattle.std.specs.Prelude.{◌≡◌, ◌+◌, ◌^◌, ℕ, [], Option, None}
use Rattle.coap_types.specs.declared.body_limit.TheConstants.{DEFAULT_BODY_LIMIT as default_limit}
use Rattle.coap_types.specs.declared.endpoint.Endpoint.{Endpoint}
use Rattle.coap_types.specs.declared.remembered.TheConstants.{DEFAULT_REMEMBERED as default_remembered}
use Rattle.coap_layer.specs.declared.setup.Setup.{Setup}
use Rattle.coap_resource.specs.declared.tally.TheConstants.{MAX_CHANGES_PER_WINDOW as max_changes}
use Rattle.knifesilver.specs.declared.config.KsConfig.{KsConfig}
use Rattle.knifesilver.specs.declared.config.TheConstants.{USUAL_BLOCK as usual_block}
use Rattle.knifesilver.specs.declared.held.Held.{Held}
use Rattle.knifesilver.specs.ClientHeld as client
use Rattle.knifesilver.specs.Configs.{chosen}
use Rattle.knifesilver.specs.Reports.{beside}
use Rattle.knifesilver.specs.ServerHeld as server

-- with that word, and as many messages that are remembered as are chosen (RFC 7252, section 4.5)
abbrev pub setup_of : KsConfig → (word : ℕ) → Setup
setup_of config word = record { word = word; remembered = chosen default_remembered config.remembered }

-- a server, whose blocks have so many bytes (RFC 7959, section 2.2), and whose versions begin after the base
abbrev pub IsFreshServer : KsConfig → (word : ℕ) → Option Held → Type 0
IsFreshServer config word held = (szx : ℕ) × (2 ^ (szx + 4) ≡ chosen usual_block config.block_size)
    × server.HoldsLed (record {
      changes = chosen max_changes config.changes;
      body = chosen default_limit config.body_limit;
      base = config.base;
    }) szx (setup_of config word) [] held

-- a client of that server, likewise, and no report waits beside it
abbrev pub IsFreshClient : Endpoint → KsConfig → (word : ℕ) → Option Held → Type 0
IsFreshClient of config word held = (beside held ≡ None) × (szx : ℕ) × (2 ^ (szx + 4) ≡ chosen usual_block config.block_size)
    × client.HoldsLed of (record { szx = szx; limit = chosen default_limit config.body_limit }) (setup_of config word) []
    held
