-- The calls, the entries and the state of a message layer, with other endpoints in the place of theirs (RFC 7252,
-- section 4).
use Rattle.std.specs.Prelude.{map}
use Rattle.std.specs.Option.{option_map}
use Rattle.coap_types.specs.declared.endpoint.Endpoint.{Endpoint}
use Rattle.coap_layer.specs.Machine.State.{Arrived, State}
use Rattle.coap_layer.specs.Machine.Steps.{Asked}
use Rattle.coap_layer.specs.Trace.{Packet, Call, Receive, Reply, Confirm, Plain, Settle, Ticks, Take, Room, AsksFree}
use Rattle.coap_layer.specs.Trace.{Pass, Answer, Copied, Expired, Gives, Entry}
use Rattle.coap_layer.specs.Words.{Awaited, Incoming, Open}

module _ (rename : Endpoint → Endpoint) where
  abbrev pub packet : Packet → Packet
  packet p = record p { to = rename p.to }

  abbrev pub call : Call → Call
  call (Receive from bytes) = Receive (rename from) bytes
  call (Reply to id bytes) = Reply (rename to) id bytes
  call (Confirm to content word) = Confirm (rename to) content word
  call (Plain to content) = Plain (rename to) content
  call (Settle to id) = Settle (rename to) id
  call (Room to) = Room (rename to)
  call Ticks = Ticks
  call Take = Take
  call AsksFree = AsksFree
  call Pass = Pass

  abbrev pub answer : Answer → Answer
  answer (Copied to id) = Copied (rename to) id
  answer (Expired to id) = Expired (rename to) id
  answer (Gives p) = Gives (option_map packet p)
  answer other = other

  abbrev pub entry : Entry → Entry
  entry e = record { at = e.at; call = call e.call; answer = answer e.answer; out = map packet e.out }

  abbrev pub asked : Asked → Asked
  asked a = record { now = a.now; call = call a.call; answer = answer a.answer }

  -- what is handed up, what a reply may be given to, a CON that is outstanding, what is remembered

  abbrev pub incoming : Incoming → Incoming
  incoming m = record m { from = rename m.from }

  abbrev pub awaited : Awaited → Awaited
  awaited w = record w { from = rename w.from }

  abbrev pub con : Open → Open
  con c = record c { to = rename c.to }

  abbrev pub arrived : Arrived → Arrived
  arrived a = record a { from = rename a.from }

  abbrev pub state : State → State
  state s = record s {
    awaits = option_map awaited s.awaits;
    arrived = map arrived s.arrived;
    open_cons = map con s.open_cons;
    queue = map packet s.queue;
  }
