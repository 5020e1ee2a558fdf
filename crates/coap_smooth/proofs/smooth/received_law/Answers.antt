use Rattle.coap_smooth.proofs.Delivery.FedInTime.{all_prompt}
use Rattle.coap_smooth.proofs.Delivery.Received.{are_received}
use Rattle.coap_smooth.proofs.Delivery.SmoothGaps.{are_close}
use Rattle.coap_smooth.proofs.smooth.received_law.Goals as goal

pub returns : goal.returns
returns c = record {
  close = λ config events turns made legal often. are_close config.addresses turns legal.events often;
  prompt = λ config events turns made legal smooth. all_prompt config legal.range.addresses.two turns
      made.made legal.events smooth.goes;
  received = λ config events turns made legal. are_received config events turns made legal;
}
