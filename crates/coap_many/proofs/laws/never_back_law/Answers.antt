use Rattle.coap_server_laws.proofs.Facts.Laws.{stamped}
use Rattle.coap_many.specs.Entries.{entries_of, server_trace}
use Rattle.coap_many.proofs.NeverBack.{never_back}
use Rattle.coap_many.proofs.Promises.{promises}
use Rattle.coap_many.proofs.laws.never_back_law.Goals as goal

pub returns : goal.returns
returns c = record {
  never_back = λ clocks config events turns run legal.
      never_back config (entries_of turns) (λ k client. promises
      (c.agreement_of_many.ensures.each clocks config events turns run legal k client))
      run.server.rows
      (stamped config.limits config.szx config.setup (server_trace config (entries_of turns)) run.server);
}
