-- The calls of a server, and what it keeps, with other endpoints in the place of theirs (RFC 7252, section 5; RFC 7641,
-- section 4; RFC 7959, section 2.5).
use Rattle.std.specs.Prelude.{map}
use Rattle.std.specs.Option.{option_map}
use Rattle.coap_types.specs.declared.endpoint.Endpoint.{Endpoint}
use Rattle.coap_block.specs.AssemblyState.{Key, PartialBody, AssemblyState}
use Rattle.coap_observe.specs.Observers.{Observer}
use Rattle.coap_server.specs.Led.{State}
use Rattle.coap_server.specs.Trace.{Waiting, Applied, Own, Handling, Notifies, Call, Sets, Removes, Delays, Plains}
use Rattle.coap_server.specs.Trace.{Feeds, Refuses, Ticks, NextOut, Gets, TellsApplied}
use Rattle.coap_opaque.specs.Renaming.OfLayer as L
use Rattle.coap_opaque.specs.Renaming.OfExchanges as X
use Rattle.coap_server.specs.Trace.{Forgets}

module _ (rename : Endpoint → Endpoint) where
  abbrev pub observer : Observer → Observer
  observer o = record o { to = rename o.to }

  abbrev pub waiting : Waiting → Waiting
  waiting w = record w { asked = X.asked rename w.asked }

  abbrev pub applied : Applied → Applied
  applied a = record a { from = rename a.from }

  abbrev pub key : Key → Key
  key k = record k { from = rename k.from }

  abbrev pub partial : PartialBody → PartialBody
  partial p = record p { key = key p.key }

  abbrev pub uploads : AssemblyState → AssemblyState
  uploads u = record u { partials = map partial u.partials }

  abbrev pub own : Own → Own
  own s = record s {
    exchanges = X.own rename s.exchanges;
    uploads = uploads s.uploads;
    observers = map observer s.observers;
    waiting = map waiting s.waiting;
    applied = map applied s.applied;
  }

  abbrev pub state : State → State
  state s = record { own = own s.own; layer = L.state rename s.layer }

  abbrev pub handling : Handling → Handling
  handling (Notifies o reply) = Notifies (observer o) reply
  handling other = other

  abbrev pub call : Call → Call
  call (Sets now path format body answer left) = Sets now path format body answer left
  call (Removes now path answer left) = Removes now path answer left
  call (Delays path ms answer) = Delays path ms answer
  call (Plains path answer) = Plains path answer
  call (Feeds now from bytes word up came h below) =
      Feeds now (rename from) bytes word (L.answer rename up) (option_map (X.came rename) came) (handling h)
      (L.answer rename below)
  call (Refuses now from bytes word code up p response below) =
      Refuses now (rename from) bytes word code (L.answer rename up) (X.came rename p) response (L.answer rename below)
  call (Ticks now word below room due passed h id answer) =
      Ticks now word (L.answer rename below) room (X.what_is_due rename due) passed (handling h) id answer
  call (NextOut answer) = NextOut (option_map (L.packet rename) answer)
  call (Gets path answer) = Gets path answer
  call (TellsApplied answer) = TellsApplied (map applied answer)
  call (Forgets peer) = Forgets (rename peer)
