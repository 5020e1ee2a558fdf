use Rattle.coap_block.proofs.Joining.BlocksOfHistory.{partials_by_history, few_partials, one_for_a_key, whole_by_blocks}
use Rattle.coap_block.proofs.Joining.BlocksOfHistory.{none_left, others_stay}
use Rattle.coap_block.proofs.Joining.ThereExactly.{joins_where_more, there_at_moment, there_by_history}
use Rattle.coap_block.proofs.Joining.OthersOfAPeer.{forgetting_leaves, forgotten_has_none}
use Rattle.coap_block.proofs.laws.assembly_law.Goals as goal

pub returns-clause-partials : goal.returns-clause-partials
returns-clause-partials c = partials_by_history

pub returns-clause-few : goal.returns-clause-few
returns-clause-few c = few_partials

pub returns-clause-whole : goal.returns-clause-whole
returns-clause-whole c = whole_by_blocks

pub returns-clause-none : goal.returns-clause-none
returns-clause-none c = none_left

pub returns-clause-others : goal.returns-clause-others
returns-clause-others c = others_stay

pub returns-clause-distinct : goal.returns-clause-distinct
returns-clause-distinct c = one_for_a_key

pub returns-clause-there : goal.returns-clause-there
returns-clause-there c = there_by_history

pub returns-clause-later : goal.returns-clause-later
returns-clause-later c = there_at_moment

pub returns-clause-joins : goal.returns-clause-joins
returns-clause-joins c = joins_where_more

pub returns-clause-forgets : goal.returns-clause-forgets
returns-clause-forgets c = forgotten_has_none

pub returns-clause-leaves : goal.returns-clause-leaves
returns-clause-leaves c = forgetting_leaves
