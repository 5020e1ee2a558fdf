use Rattle.coap_fair.proofs.Retransmitted.Five.{five_times}
use Rattle.coap_fair.proofs.Retransmitted.Over.{are_over}
use Rattle.coap_fair.proofs.Retransmitted.Replayed.{are_replayed}
use Rattle.coap_fair.proofs.Retransmitted.TakenSoon.{taken_soon}
use Rattle.coap_fair.proofs.copies.copies_law.Goals as goal

pub returns : goal.returns
returns c = record {
  five = λ setup t law. five_times setup t law;
  taken = λ one other near far all law.
      taken_soon one other near far all (c.channel_law.ensures.taking one other near far all law) law;
  replayed = λ setup t law. are_replayed setup t law;
  over = λ setup t law. are_over setup t law;
}
