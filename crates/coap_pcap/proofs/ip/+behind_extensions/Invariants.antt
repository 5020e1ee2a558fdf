use Rattle.coap_pcap.proofs.ip.+behind_extensions.Given as goal

abbrev pub decreases-behind_extensions : goal.decreases-behind_extensions
decreases-behind_extensions l = l.most
