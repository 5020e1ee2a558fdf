use Rattle.std.proofs.Common.{rules}
use Rattle.coap_client.proofs.client.observation_fetch.take_if_content.Goals as goal

pub returns-then-eq-clause-value : goal.returns-then-eq-clause-value
returns-then-eq-clause-value g c number = let k = c.take.ensures.value number in search rules
