use Rattle.coap_many.specs.Entries.{entries_of}
use Rattle.coap_many.proofs.RealTime.{in_real_time}
use Rattle.coap_many.proofs.Promises.{promises}
use Rattle.coap_many.proofs.laws.in_real_time_law.Goals as goal

pub returns : goal.returns
returns c = record {
  in_real_time = λ clocks config events turns run legal.
      in_real_time config (entries_of turns) (λ k client. promises
      (c.agreement_of_many.ensures.each clocks config events turns run legal k client));
}
