use Rattle.coap_block.proofs.Sending.SentInOrder.{continues_is_tested, sent_by_part, whole_by_sent}
use Rattle.coap_block.proofs.laws.upload_law.Goals as goal

pub returns-clause-next : goal.returns-clause-next
returns-clause-next c = sent_by_part

pub returns-clause-whole : goal.returns-clause-whole
returns-clause-whole c = whole_by_sent

pub returns-clause-continues : goal.returns-clause-continues
returns-clause-continues c = continues_is_tested
