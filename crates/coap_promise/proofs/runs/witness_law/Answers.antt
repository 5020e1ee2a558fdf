use Rattle.coap_promise.proofs.Facts.Witness.Gets.{gotten}
use Rattle.coap_promise.proofs.Facts.Witness.Defers.{deferred}
use Rattle.coap_promise.proofs.Facts.Witness.Observed.{observed}
use Rattle.coap_promise.proofs.Facts.Witness.TimesOut.{timed_out}
use Rattle.coap_promise.proofs.Witness.HoldsBack.{held_back}
use Rattle.coap_promise.proofs.runs.witness_law.Goals as goal

pub returns-clause-gets : goal.returns-clause-gets
returns-clause-gets c = gotten

pub returns-clause-defers : goal.returns-clause-defers
returns-clause-defers c = deferred

pub returns-clause-observed : goal.returns-clause-observed
returns-clause-observed c = observed

pub returns-clause-times_out : goal.returns-clause-times_out
returns-clause-times_out c = timed_out

pub returns-clause-holds_back : goal.returns-clause-holds_back
returns-clause-holds_back c = held_back
