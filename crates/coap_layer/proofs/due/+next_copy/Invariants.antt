use Rattle.coap_layer.proofs.due.+next_copy.Given as goal

abbrev pub decreases-next_copy : goal.decreases-next_copy
decreases-next_copy l = l.retransmissions
