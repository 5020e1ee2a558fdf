-- The law of a server, over whole traces of its calls, the newest first (RFC 7252, section 5; RFC 7641, section 4; RFC
-- 7959, section 2).
use Rattle.std.specs.Prelude.{ℕ, List}
use Rattle.coap_layer.specs.Trace.{Entry}
use Rattle.coap_layer.specs.declared.setup.Setup.{Setup}
use Rattle.coap_resource.specs.Limits.{Limits}
use Rattle.coap_exchange.specs.Above.{sum_of, asked_by, Rows}
use Rattle.coap_exchange.specs.AnswererTrace as E
use Rattle.coap_exchange.specs.AnswererLaw.{ResponseLaw, below_of}
use Rattle.coap_server.specs.Trace.{Own, start, Call}
use Rattle.coap_server.specs.Asks.{lower}
use Rattle.coap_server.specs.Steps.{IsRight, after}

module _ (limits : Limits) (szx : ℕ) where
  -- what the calls so far add up to, where the store has these limits, and blocks have this size
  abbrev pub own_of : List Call → Own
  own_of trace = sum_of (start limits szx) after trace

  -- the calls of the exchanges, one behind the other: nothing is added or left out
  abbrev pub lower_of : List Call → List E.Call
  lower_of trace = asked_by (start limits szx) after lower trace

  -- each call has its row
  abbrev pub ServerRows : List Call → Type 0
  ServerRows trace = Rows (start limits szx) after IsRight trace

  -- .. and the calls of its exchanges stand in their law, those of the message layer in its own
  pub record ServerLaw (setup : Setup) (trace : List Call) : Type 0 where
    pub rows : ServerRows trace
    pub exchanges : ResponseLaw setup (lower_of trace)

  -- the trace of the message layer
  abbrev pub layer_of : Setup → List Call → List Entry
  layer_of setup trace = below_of setup (lower_of trace)
