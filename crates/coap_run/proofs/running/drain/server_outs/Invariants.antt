use Rattle.std.proofs.Common.{ℕ, List, Option, Some, map, length}
use Rattle.coap_server.specs.Trace.{NextOut}
use Rattle.coap_record.specs.Record.{OfServer}
use Rattle.coap_run.specs.Run.Acts.{Acts}
use Rattle.coap_run.specs.Run.Ends.{ServerLed}
use Rattle.coap_run.specs.Run.Log.{server_lines}
use Rattle.coap_run.proofs.running.drain.server_outs.Given as goal

abbrev pub decreases-outs : goal.decreases-outs
decreases-outs g l = length l.end.server.exchanges.layer.queue

abbrev pub invariant-outs : goal.invariant-outs
invariant-outs g l =
    (sender : List ℕ → Option ℕ) → (taken : List _)
    × Acts l.addresses (ServerLed g.S.Store.content) OfServer (server_lines l.addresses sender) l.fn.at.0
    (map (λ p. NextOut (Some p)) taken) l.initial.end l.initial.log l.end l.log
