use Rattle.coap_pcap.proofs.Again.{tells_again}
use Rattle.coap_pcap.proofs.Readings.{tells_one, tells_sound}
use Rattle.coap_pcap.proofs.laws.pcap_law.Goals as goal

pub returns-clause-again : goal.returns-clause-again
returns-clause-again c = tells_again

pub returns-clause-one : goal.returns-clause-one
returns-clause-one c = tells_one

pub returns-clause-sound : goal.returns-clause-sound
returns-clause-sound c = tells_sound
