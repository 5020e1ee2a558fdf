-- The calls of exchanges, and what they keep, with other endpoints in the place of theirs (RFC 7252, section 5).
use Rattle.std.specs.Prelude.{map}
use Rattle.std.specs.Option.{option_map}
use Rattle.coap_types.specs.declared.endpoint.Endpoint.{Endpoint}
use Rattle.coap_codec.specs.Message.{Message}
use Rattle.coap_exchange.specs.declared.answerer.Asked.{Asked}
use Rattle.coap_exchange.specs.declared.answerer.Due.{Due}
use Rattle.coap_exchange.specs.declared.answerer.Due.TheVariants as due
use Rattle.coap_exchange.specs.declared.answerer.Ended.{Ended}
use Rattle.coap_exchange.specs.declared.separate.Deferred.{Deferred}
use Rattle.coap_exchange.specs.declared.separate.Separate.{Separate}
use Rattle.coap_exchange.specs.AnswererTrace as E
use Rattle.coap_exchange.specs.AnswererTrace.{Sending}
use Rattle.coap_exchange.specs.AskerTrace as A
use Rattle.coap_opaque.specs.Renaming.OfLayer as L

module _ (rename : Endpoint → Endpoint) where
  -- the server's side

  abbrev pub asked : Asked → Asked
  asked a = record a { from = rename a.from }

  abbrev pub came : Asked × Message → Asked × Message
  came p = (asked p.0, p.1)

  abbrev pub deferred : Deferred → Deferred
  deferred d = record d { asked = asked d.asked }

  abbrev pub separate : Separate → Separate
  separate x = record x { to = rename x.to }

  abbrev pub ended : Ended → Ended
  ended x = record x { to = rename x.to }

  abbrev pub sending : Sending → Sending
  sending x = record x { to = rename x.to }

  abbrev pub what_is_due : Due → Due
  what_is_due (due.Ready a) = due.Ready (asked a)
  what_is_due other = other

  abbrev pub call : E.Call → E.Call
  call (E.Incoming now from bytes up answer) =
      E.Incoming now (rename from) bytes (L.answer rename up) (option_map came answer)
  call (E.Answers a r below) = E.Answers (asked a) r (L.answer rename below)
  call (E.Defers now a delay answer) = E.Defers now (asked a) delay answer
  call (E.Ticks now below room answer) = E.Ticks now (L.answer rename below) room (what_is_due answer)
  call (E.Responds now a r word id) = E.Responds now (asked a) r word id
  call (E.Ready now to answer) = E.Ready now (rename to) answer
  call (E.Notifies now to token r word id) = E.Notifies now (rename to) token r word id
  call (E.NotifiesPlain now to token r id) = E.NotifiesPlain now (rename to) token r id
  call (E.Take answer) = E.Take (option_map (L.packet rename) answer)
  call (E.Forgets peer) = E.Forgets (rename peer)

  abbrev pub own : E.Own → E.Own
  own s = record s {
    pending = option_map asked s.pending;
    deferred = map deferred s.deferred;
    separate = map separate s.separate;
    ended = option_map ended s.ended;
    unmatched = option_map sending s.unmatched;
  }

  -- the client's side

  abbrev pub asker_call : A.Call → A.Call
  asker_call (A.Ask now r word below answer) = A.Ask now r word (L.answer rename below) answer
  asker_call (A.Receive now from bytes up settled answer) =
      A.Receive now (rename from) bytes (L.answer rename up) settled answer
  asker_call (A.Ticks now below answer) = A.Ticks now (L.answer rename below) answer
  asker_call (A.Keep token answer) = A.Keep token answer
  asker_call (A.Release token answer) = A.Release token answer
  asker_call (A.Take answer) = A.Take (option_map (L.packet rename) answer)

  abbrev pub asker_own : A.Own → A.Own
  asker_own s = record s { server = rename s.server }
