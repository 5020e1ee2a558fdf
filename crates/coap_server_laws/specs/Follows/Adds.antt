-- What each call of a server asks of its message layer, and the entries that it adds there (RFC 7252, section 4).
use Rattle.std.specs.Prelude.{ℕ, List}
use Rattle.coap_layer.specs.Machine.State.{start}
use Rattle.coap_layer.specs.Machine.Steps.{Asked, left_after, entries}
use Rattle.coap_layer.specs.Trace.{Entry}
use Rattle.coap_layer.specs.declared.setup.Setup.{Setup}
use Rattle.coap_resource.specs.Limits.{Limits}
use Rattle.coap_exchange.specs.AnswererLaw as answerer
use Rattle.coap_exchange.specs.Adds.{asked_by_server}
use Rattle.coap_server.specs.Trace.{Call}
use Rattle.coap_server.specs.Asks.{lower}
use Rattle.coap_server.specs.Law.{own_of, lower_of}

module _ (limits : Limits) (szx : ℕ) where
  abbrev pub call_asks : List Call → Call → List Asked
  call_asks past c = asked_by_server (lower_of limits szx past) (lower (own_of limits szx past) c)

  abbrev pub all_asked : List Call → List Asked
  all_asked past = answerer.lower_of (lower_of limits szx past)

  -- the entries that a call adds
  abbrev pub call_adds : Setup → List Call → Call → List Entry
  call_adds setup past c = entries (left_after (start setup) (all_asked past)) (call_asks past c)
