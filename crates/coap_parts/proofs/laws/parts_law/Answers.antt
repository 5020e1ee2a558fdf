use Rattle.coap_parts.proofs.TagsAreKept.{none_joined, whole_by_history, joined_by_history}
use Rattle.coap_parts.proofs.laws.parts_law.Goals as goal

pub returns-clause-whole : goal.returns-clause-whole
returns-clause-whole c = whole_by_history

pub returns-clause-joined : goal.returns-clause-joined
returns-clause-joined c = joined_by_history

pub returns-clause-none : goal.returns-clause-none
returns-clause-none c = none_joined
