use Rattle.coap_promise.proofs.Witness.GrowsOld.{oldest, oldest_by_two}
use Rattle.coap_promise.proofs.Witness.HourAhead.{hour_is_ahead}
use Rattle.coap_promise.proofs.Witness.PutsTwice.{puts_it_twice}
use Rattle.coap_promise.proofs.runs.clocks_witness_law.Goals as goal

pub returns-clause-hour : goal.returns-clause-hour
returns-clause-hour c = hour_is_ahead

pub returns-clause-twice : goal.returns-clause-twice
returns-clause-twice c = puts_it_twice

pub returns-clause-oldest : goal.returns-clause-oldest
returns-clause-oldest c = oldest

pub returns-clause-oldest_by_two : goal.returns-clause-oldest_by_two
returns-clause-oldest_by_two c = oldest_by_two
