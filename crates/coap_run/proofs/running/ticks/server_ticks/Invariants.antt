use Rattle.coap_server.specs.Object.Shown.{state_of}
use Rattle.coap_server.specs.Turns.Work.{work}
use Rattle.coap_record.specs.Record.{OfServer, ServerTick}
use Rattle.coap_run.specs.Run.Ends.{ServerLed}
use Rattle.coap_run.specs.Run.Log.{server_lines}
use Rattle.coap_run.specs.Run.Senders.{sender_in}
use Rattle.coap_run.proofs.Recording.Acting.{TicksSo}
use Rattle.coap_run.proofs.running.ticks.server_ticks.Given as goal

abbrev pub decreases-ticks : goal.decreases-ticks
decreases-ticks g l = work (state_of g.S.Store.content l.end.server) l.at.0

abbrev pub invariant-ticks : goal.invariant-ticks
invariant-ticks g l = TicksSo l.addresses (ServerLed g.S.Store.content) OfServer
    (server_lines l.addresses (sender_in l.fn.senders)) l.at.0
    (ServerTick l.at.0 l.word) l.initial.end l.initial.log l.end l.log
