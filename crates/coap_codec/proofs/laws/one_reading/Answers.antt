use Rattle.coap_codec.proofs.Datagrams.EveryDatagram.{each_is_read, not_both, one_message, one_fault}
use Rattle.coap_codec.proofs.Datagrams.EveryDatagram.{message_is_decoded, fault_is_decoded}
use Rattle.coap_codec.proofs.laws.one_reading.Goals as goal

pub returns-clause-each : goal.returns-clause-each
returns-clause-each c = each_is_read

pub returns-clause-not_both : goal.returns-clause-not_both
returns-clause-not_both c = not_both

pub returns-clause-one_message : goal.returns-clause-one_message
returns-clause-one_message c = one_message

pub returns-clause-one_fault : goal.returns-clause-one_fault
returns-clause-one_fault c = one_fault

pub returns-clause-message : goal.returns-clause-message
returns-clause-message c = message_is_decoded

pub returns-clause-fault : goal.returns-clause-fault
returns-clause-fault c = fault_is_decoded
