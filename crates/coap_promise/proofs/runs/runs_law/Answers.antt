use Rattle.coap_promise.proofs.Progress.EachEventHasATurn.{goes_on, has_record}
use Rattle.coap_promise.proofs.runs.runs_law.Goals as goal

pub returns : goal.returns
returns c = record {
  goes = λ config. goes_on config;
  runs = λ config few events may. has_record config few events may;
}
