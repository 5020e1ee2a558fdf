use Rattle.coap_server_laws.proofs.Facts.Laws.{stamped}
use Rattle.coap_many.specs.Entries.{entries_of, server_trace}
use Rattle.coap_many.proofs.DoneReads.{reads_what_was_done, observes_what_was_done}
use Rattle.coap_many.proofs.Promises.{promises}
use Rattle.coap_many.proofs.laws.reads_what_was_done_law.Goals as goal

pub returns : goal.returns
returns c = record {
  calls = λ clocks config events turns run legal.
      reads_what_was_done config (entries_of turns)
      (λ k client. promises
      (c.agreement_of_many.ensures.each clocks config events turns run legal k client)) run.server.rows
      (stamped config.limits config.szx config.setup (server_trace config (entries_of turns)) run.server);
  observations = λ clocks config events turns run legal.
      observes_what_was_done config (entries_of turns)
      (λ k client. promises
      (c.agreement_of_many.ensures.each clocks config events turns run legal k client)) run.server.rows
      (stamped config.limits config.szx config.setup (server_trace config (entries_of turns)) run.server);
}
