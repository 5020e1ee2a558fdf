use Rattle.coap_block.proofs.Fetching.WholeByParts.{whole_by_parts, gathered_by_part}
use Rattle.coap_block.proofs.Fetching.PartsOfHistory.{whole_by_history}
use Rattle.coap_block.proofs.Fetching.BodiesAreShort.{body_is_short, gathered_is_short}
use Rattle.coap_block.proofs.laws.fetch_law.Goals as goal

pub returns-clause-next : goal.returns-clause-next
returns-clause-next c = gathered_by_part

pub returns-clause-whole : goal.returns-clause-whole
returns-clause-whole c = whole_by_parts

pub returns-clause-history : goal.returns-clause-history
returns-clause-history c = whole_by_history

pub returns-clause-gathered : goal.returns-clause-gathered
returns-clause-gathered c = gathered_is_short

pub returns-clause-short : goal.returns-clause-short
returns-clause-short c = body_is_short
