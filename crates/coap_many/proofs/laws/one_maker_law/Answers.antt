use Rattle.coap_server_laws.proofs.Facts.Laws.{right}
use Rattle.coap_many.specs.Entries.{entries_of, server_trace}
use Rattle.coap_many.proofs.OneMaker.{one_maker}
use Rattle.coap_many.proofs.OneRequestMakes.{requests_make}
use Rattle.coap_many.proofs.Promises.{promises}
use Rattle.coap_many.proofs.laws.one_maker_law.Goals as goal

pub returns : goal.returns
returns c = record {
  requests = λ clocks config events turns run legal.
      requests_make config (entries_of turns)
      (right config.limits config.szx config.setup (server_trace config (entries_of turns)) run.server);
  calls = λ clocks config events turns run legal.
      one_maker config (entries_of turns) (λ k client. promises
      (c.agreement_of_many.ensures.each clocks config events turns run legal k client));
}
