use Rattle.coap_many.proofs.Witness.Behind.{read_behind}
use Rattle.coap_many.proofs.Witness.Cross.{crossed}
use Rattle.coap_many.proofs.Witness.Lock.{locked}
use Rattle.coap_many.proofs.laws.many_witness_law.Goals as goal

pub returns : goal.returns
returns c = record { crosses = crossed; lock = locked; behind = read_behind }
