use Rattle.coap_order.proofs.Build.{has_record}
use Rattle.coap_order.proofs.OfRecords.{records_are_runs}
use Rattle.coap_order.proofs.Promised.{is_promised}
use Rattle.coap_order.proofs.Taken.{all_applied, all_held}
use Rattle.coap_order.proofs.laws.order_law.Goals as goal

pub returns-clause-promised : goal.returns-clause-promised
returns-clause-promised c clocks config run runs legal = is_promised config clocks run runs legal

pub returns-clause-held : goal.returns-clause-held
returns-clause-held c clocks config run runs legal =
    let agrees = (is_promised config clocks run runs legal).agrees in
    all_held config run agrees.holds_changes.each agrees.each_held agrees.taken

pub returns-clause-applied : goal.returns-clause-applied
returns-clause-applied c clocks config run runs legal =
    let agrees = (is_promised config clocks run runs legal).agrees in
    all_applied config run agrees.once_done agrees.taken

pub returns-clause-record_of : goal.returns-clause-record_of
returns-clause-record_of c clocks config run runs legal = has_record config clocks run runs legal

pub returns-clause-of_records : goal.returns-clause-of_records
returns-clause-of_records c = records_are_runs
