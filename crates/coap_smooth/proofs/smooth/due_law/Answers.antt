use Rattle.coap_record.specs.Record.{client_of, entries_of, server_trace}
use Rattle.coap_smooth.proofs.ByDue.ClientByDue as client
use Rattle.coap_smooth.proofs.ByDue.ServerByDue as server
use Rattle.coap_smooth.proofs.Smoothly.Ticks.KeepsUp.{keep_up}
use Rattle.coap_smooth.proofs.smooth.due_law.Goals as goal

pub returns : goal.returns
returns c = record {
  client = λ config events turns run legal s led now. (
    client.rests_by_due config.addresses.server config.client_sizes config.client_setup (client_of (entries_of turns)) s
        led now,
    client.works_by_due config.addresses.server config.client_sizes config.client_setup (client_of (entries_of turns)) s
        led now,
  );
  server = λ config events turns run legal s led now. (
    server.rests_by_due config.limits config.server_szx config.server_setup (server_trace config (entries_of turns)) s
        led now,
    server.works_by_due config.limits config.server_szx config.server_setup (server_trace config (entries_of turns)) s
        led now,
  );
  seconds = λ config events turns run legal often. keep_up config turns often;
}
