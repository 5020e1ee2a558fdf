use Rattle.std.proofs.Common.{◌≤◌, length, drop}
use Rattle.coap_server.specs.Object.Shown.{state_of}
use Rattle.coap_server.specs.Led.{Led}
use Rattle.coap_record.specs.Begins.{begins_with}
use Rattle.coap_run.proofs.running.begin.make_plain.Given as goal

abbrev pub decreases-plains : goal.decreases-plains
decreases-plains g l = l.left

abbrev pub invariant-plains : goal.invariant-plains
invariant-plains g l =
    record {
      within : l.left ≤ length l.fn.config.plains;
      led : Led l.fn.config.limits l.fn.config.server_szx l.fn.config.server_setup
          (begins_with (drop l.left l.fn.config.plains) l.fn.config.delays) (state_of g.S.Store.content l.server);
    }
