use Rattle.coap_server_laws.proofs.Facts.Laws.{right, stamped}
use Rattle.coap_many.specs.Entries.{client_of, entries_of, server_trace}
use Rattle.coap_many.proofs.OneCallWins.{one_call_wins}
use Rattle.coap_many.proofs.OneRequestWins.{one_request_wins}
use Rattle.coap_many.proofs.Owned.{one}
use Rattle.coap_many.proofs.Promises.{promises}
use Rattle.coap_many.proofs.laws.one_winner_law.Goals as goal

pub returns : goal.returns
returns c = record {
  requests = λ clocks config events turns run legal.
      let trace = server_trace config (entries_of turns) in
      one_request_wins config (entries_of turns) run.server.rows
      (stamped config.limits config.szx config.setup trace run.server)
      (right config.limits config.szx config.setup trace run.server);
  calls = λ clocks config events turns run legal.
      let agrees = c.agreement_of_many.ensures.each clocks config events turns run legal in
      one_call_wins config (entries_of turns) run.server.rows
      (stamped config.limits config.szx config.setup (server_trace config (entries_of turns)) run.server)
      (λ k client. promises (agrees k client))
      (λ k l m n x a b. one config legal.range (entries_of turns)
      (λ k client. c.client_follows_law.ensures.tokens config.server k.sizes k.setup (client_of k.at (entries_of turns))
      (run.clients k client)) (λ k client. (agrees k client).each_belongs) x k l m n a b);
}
