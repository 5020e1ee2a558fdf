use Rattle.coap_layer.proofs.Between.WhatIsTaken.{alone}
use Rattle.coap_layer.proofs.Copies.FiveAtMost.{five_at_most}
use Rattle.coap_layer.proofs.Copies.WhatIsOpen.{one_open}
use Rattle.coap_layer.proofs.Out.EachGoesOut.{all_alike, cons_spelled, each_goes_out}
use Rattle.coap_layer.proofs.Out.InOrder.{in_order, taken_sent, taken_since}
use Rattle.coap_layer.proofs.laws.sending_law.Goals as goal

pub returns-clause-five : goal.returns-clause-five
returns-clause-five c = five_at_most

pub returns-clause-alike : goal.returns-clause-alike
returns-clause-alike c = all_alike

pub returns-clause-spelled : goal.returns-clause-spelled
returns-clause-spelled c = cons_spelled

pub returns-clause-alone : goal.returns-clause-alone
returns-clause-alone c = one_open

pub returns-clause-kinds : goal.returns-clause-kinds
returns-clause-kinds c = each_goes_out

pub returns-clause-order : goal.returns-clause-order
returns-clause-order c = in_order

pub returns-clause-since : goal.returns-clause-since
returns-clause-since c = taken_since

pub returns-clause-last : goal.returns-clause-last
returns-clause-last c word t law a b = alone word t a b law

pub returns-clause-before : goal.returns-clause-before
returns-clause-before c = taken_sent
