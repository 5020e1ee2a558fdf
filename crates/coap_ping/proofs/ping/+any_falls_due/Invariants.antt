use Rattle.coap_ping.proofs.ping.+any_falls_due.Given as goal

abbrev pub decreases-any_falls_due : goal.decreases-any_falls_due
decreases-any_falls_due l = l.copies
