-- What the laws of many clients need of what is promised of one client and the server: all but which reports are taken.
use Rattle.std.proofs.Common.{List}
use Rattle.coap_client_laws.specs.Follows.Codes.{ReportsCodes}
use Rattle.coap_client_laws.specs.Follows.Numbers.{NumbersOnce}
use Rattle.coap_promise.specs.Agrees.{Agrees}
use Rattle.coap_promise.specs.Answers.{AllAnswered}
use Rattle.coap_promise.specs.Applied.{AppliedWhole, AtMostOnce, EachBelongs}
use Rattle.coap_promise.specs.Done.{EachFailed, NeverFailed, OnceDone}
use Rattle.coap_promise.specs.Held.{EachHeld, EachValid, EachValue}
use Rattle.coap_record.specs.Events.{Config}
use Rattle.coap_record.specs.Record.{Entry, client_of}

pub record Promises (config : Config) (all : List Entry) : Type 0 where
  pub each_held : EachHeld config all
  pub each_valid : EachValid config all
  pub each_value : EachValue config all
  pub each_belongs : EachBelongs config all
  pub applied_whole : AppliedWhole config all
  pub at_most_once : AtMostOnce config all
  pub once_done : OnceDone config all
  pub never_failed : NeverFailed config all
  pub each_failed : EachFailed config all
  pub answered : AllAnswered config all
  pub codes_reported : ReportsCodes config.client_sizes (client_of all)
  pub one_number : NumbersOnce (client_of all)

pub promises : {config : Config} {all : List Entry} → Agrees config all → Promises config all
promises {config} {all} h = record {
  each_held = h.each_held;
  each_valid = h.each_valid;
  each_value = h.each_value;
  each_belongs = h.each_belongs;
  applied_whole = h.applied_whole;
  at_most_once = h.at_most_once;
  once_done = h.once_done;
  never_failed = h.never_failed;
  each_failed = h.each_failed;
  answered = h.answered;
  codes_reported = h.codes_reported;
  one_number = h.one_number;
}
