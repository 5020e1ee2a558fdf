use Rattle.coap_promise.proofs.Facts.Delivery.GivenOutBefore.{all_fair}
use Rattle.coap_promise.proofs.laws.delivery_law.Goals as goal

pub returns : goal.returns
returns c = record {
  fair = λ config events turns record_of legal. all_fair config.addresses turns record_of.made
      legal.events;
}
