use Rattle.coap_order.proofs.Promised.{is_promised_ever}
use Rattle.coap_order.proofs.laws.ever_law.Goals as goal

pub returns : goal.returns
returns s = record { ever = λ c config run runs legal. is_promised_ever config c run runs legal }
