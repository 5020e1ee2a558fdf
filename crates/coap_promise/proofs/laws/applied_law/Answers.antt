use Rattle.coap_promise.proofs.Reports.Promised as promised
use Rattle.coap_promise.proofs.laws.applied_law.Goals as goal

pub returns : goal.returns
returns c = record {
  belongs = promised.belonging;
  whole = promised.whole;
  once = promised.at_most_once;
  done = promised.done;
  failed = promised.failed;
  refused = promised.refused;
  holds = promised.holds;
  owned = promised.owned;
}
