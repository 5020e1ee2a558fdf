-- With what a run begins.
use Rattle.std.specs.Prelude.{ℕ, List}
use Rattle.coap_layer.specs.declared.setup.Setup.{Setup}
use Rattle.coap_block.specs.Sizes.{Sizes}
use Rattle.coap_resource.specs.Limits.{Limits}
use Rattle.coap_server.specs.declared.server.parts.Delay.{Delay as PathDelay}
use Rattle.coap_server.specs.Turns.DelaysShown.{delays_as}
use Rattle.coap_server.specs.Trace.{Delay}
use Rattle.coap_record.specs.Events.{Config}
use Rattle.coap_types.specs.declared.endpoint.Endpoint.{Endpoint}
use Rattle.coap_record.specs.declared.addresses.Addresses.{Addresses}

abbrev pub config_of : {A : Type 0} → Addresses → (client_setup : Setup) → Sizes
    → (server_setup : Setup) (server_szx : ℕ) → Limits
    → List (PathDelay A) → List (List (List ℕ)) → Config
config_of addresses client_setup client_sizes server_setup server_szx limits delays plains =
    record {
      addresses = addresses;
      client_setup = client_setup;
      client_sizes = client_sizes;
      server_setup = server_setup;
      server_szx = server_szx;
      limits = limits;
      delays = delays_as delays;
      plains = plains;
    }

-- the same, at other addresses
abbrev pub with_addresses : Config → (client server : Endpoint) → Config
with_addresses config client server = record config { addresses = record { client = client; server = server } }

-- the same, with other limits of bodies
abbrev pub with_limits : Config → (client server : ℕ) → Config
with_limits config client server = record config {
  client_sizes = record config.client_sizes { limit = client };
  limits = record config.limits { body = server };
}

-- the same, where the versions begin after another one
abbrev pub with_base : Config → ℕ → Config
with_base config base = record config { limits = record config.limits { base = base } }

-- the same, with other numbers of remembered messages
abbrev pub with_remembered : Config → (client server : ℕ) → Config
with_remembered config client server = record config {
  client_setup = record config.client_setup { remembered = client };
  server_setup = record config.server_setup { remembered = server };
}

-- the same, with other delays
abbrev pub with_delays : Config → List Delay → Config
with_delays config delays = record config { delays = delays }

-- the same, with other plain paths
abbrev pub with_plains : Config → List (List (List ℕ)) → Config
with_plains config plains = record config { plains = plains }
