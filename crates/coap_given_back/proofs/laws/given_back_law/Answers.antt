use Rattle.coap_given_back.proofs.GivenBack.Alone.{are_given_back_alone}
use Rattle.coap_given_back.proofs.GivenBack.EachGivenBack.{are_given_back}
use Rattle.coap_given_back.proofs.GivenBack.InRuns.{given_back, facts}
use Rattle.coap_given_back.proofs.GivenBack.InTime.{in_time, in_all}
use Rattle.coap_given_back.proofs.laws.given_back_law.Goals as goal

pub returns : goal.returns
returns c = record {
  sent = λ late server sizes setup t law.
      are_given_back server sizes setup late
      (λ u lawful. c.client_law.ensures.answered server sizes setup u lawful) t law;
  in_line = λ late server sizes setup t law.
      in_time server sizes setup (λ u lawful. c.client_law.ensures.answered server sizes setup u lawful) t late law;
  in_all = λ late server sizes setup t law.
      in_all server sizes setup (λ u lawful. c.client_law.ensures.answered server sizes setup u lawful) t late law;
  alone = λ late server sizes setup t law.
      are_given_back_alone server sizes setup late
      (λ u lawful. c.client_law.ensures.answered server sizes setup u lawful) t law;
  runs = λ k config events turns run legal late.
      given_back k config late (λ t law. in_time config.addresses.server config.client_sizes config.client_setup
      (λ u lawful. c.client_law.ensures.answered config.addresses.server config.client_sizes config.client_setup u
      lawful) t late law) turns (facts k config late events turns run legal);
}
