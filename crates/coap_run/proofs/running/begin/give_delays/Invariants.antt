use Rattle.std.proofs.Common.{◌≤◌, length, drop}
use Rattle.coap_server.specs.Object.Shown.{state_of}
use Rattle.coap_server.specs.Led.{Led}
use Rattle.coap_record.specs.Begins.{gives}
use Rattle.coap_run.proofs.running.begin.give_delays.Given as goal

abbrev pub decreases-delays : goal.decreases-delays
decreases-delays g l = l.left

abbrev pub invariant-delays : goal.invariant-delays
invariant-delays g l =
    record {
      within : l.left ≤ length l.fn.config.delays;
      led : Led l.fn.config.limits l.fn.config.server_szx l.fn.config.server_setup
          (gives (drop l.left l.fn.config.delays)) (state_of g.S.Store.content l.server);
    }
