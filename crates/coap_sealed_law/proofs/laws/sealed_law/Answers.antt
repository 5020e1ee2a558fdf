use Rattle.coap_sealed_law.proofs.NoncesOnce.{nonce_once, head_once}
use Rattle.coap_sealed_law.proofs.TwoLives.{two_lives_follow}
use Rattle.coap_sealed_law.proofs.laws.sealed_law.Goals as goal

pub returns-clause-nonces : goal.returns-clause-nonces
returns-clause-nonces c = nonce_once

pub returns-clause-heads : goal.returns-clause-heads
returns-clause-heads c = head_once

pub returns-clause-happens : goal.returns-clause-happens
returns-clause-happens c = two_lives_follow
