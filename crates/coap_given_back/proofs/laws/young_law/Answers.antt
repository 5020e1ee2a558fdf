use Rattle.coap_given_back.proofs.Young.AskerYoung.{are_young}
use Rattle.coap_given_back.proofs.Young.Beneath.{young}
use Rattle.coap_given_back.proofs.GivenBack.InRuns.{young_in_runs, facts}
use Rattle.coap_given_back.proofs.laws.young_law.Goals as goal

pub returns : goal.returns
returns c = record {
  asker = λ server setup late t law. are_young server setup late t law;
  runs = λ k config events turns run legal late.
      young_in_runs k config late turns (facts k config late events turns run legal);
  client = λ late server sizes setup t law. young server sizes setup late t law;
}
