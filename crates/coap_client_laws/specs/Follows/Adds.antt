-- What each call of a client asks of its message layer, and the entries that it adds there (RFC 7252, section 4).
use Rattle.std.specs.Prelude.{List}
use Rattle.coap_types.specs.declared.endpoint.Endpoint.{Endpoint}
use Rattle.coap_layer.specs.Machine.State.{start}
use Rattle.coap_layer.specs.Machine.Steps.{Asked, left_after, entries}
use Rattle.coap_layer.specs.Trace.{Entry}
use Rattle.coap_layer.specs.declared.setup.Setup.{Setup}
use Rattle.coap_block.specs.Sizes.{Sizes}
use Rattle.coap_exchange.specs.AskerLaw as asker
use Rattle.coap_exchange.specs.Adds.{asked_by_client}
use Rattle.coap_client.specs.Trace.{Call}
use Rattle.coap_client.specs.Steps.{lower}
use Rattle.coap_client.specs.Law.{own_of, lower_of}

module _ (server : Endpoint) (sizes : Sizes) (setup : Setup) where
  abbrev pub call_asks : List Call → Call → List Asked
  call_asks past c = asked_by_client server setup (lower_of sizes past) (lower (own_of sizes past) c)

  abbrev pub all_asked : List Call → List Asked
  all_asked past = asker.lower_of server setup (lower_of sizes past)

  -- the entries that a call adds
  abbrev pub call_adds : List Call → Call → List Entry
  call_adds past c = entries (left_after (start setup) (all_asked past)) (call_asks past c)
