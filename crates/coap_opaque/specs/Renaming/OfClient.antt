-- The calls of a client, with other endpoints in the place of theirs; what it keeps of its own has none (RFC 7252,
-- section 5).
use Rattle.std.specs.Option.{option_map}
use Rattle.coap_types.specs.declared.endpoint.Endpoint.{Endpoint}
use Rattle.coap_client.specs.Led.{State}
use Rattle.coap_client.specs.Trace.{Call, Calls, Observes, Cancels, Forgets, Feeds, Ticks, NextOut, NextReport, Asked}
use Rattle.coap_opaque.specs.Renaming.OfLayer as L
use Rattle.coap_opaque.specs.Renaming.OfExchanges as X

module _ (rename : Endpoint → Endpoint) where
  abbrev pub call : Call → Call
  call (Feeds now from bytes word up settled event sent token kept) =
      Feeds now (rename from) bytes word (L.answer rename up) settled event (L.answer rename sent) token kept
  call (Ticks now word below turn sent token kept answer) =
      Ticks now word (L.answer rename below) turn (L.answer rename sent) token kept answer
  call (NextOut answer) = NextOut (option_map (L.packet rename) answer)
  call (Calls now r answer) = Calls now r answer
  call (Observes now path answer) = Observes now path answer
  call (Cancels now number answer) = Cancels now number answer
  call (Forgets number kept answer) = Forgets number kept answer
  call (NextReport answer) = NextReport answer
  call (Asked answer) = Asked answer

  abbrev pub state : State → State
  state s = record {
    own = s.own;
    layer = record { own = X.asker_own rename s.layer.own; layer = L.state rename s.layer.layer };
  }
