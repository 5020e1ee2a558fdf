-- What is promised of a legal run, clause by clause.
use Rattle.std.proofs.Common.{List}
use Rattle.coap_client_laws.proofs.Facts.Laws as client_facts
use Rattle.coap_server_laws.proofs.Facts.Laws as server_facts
use Rattle.coap_record.specs.Events.{Config, Event}
use Rattle.coap_promise.specs.Clocks.{Clocks, Legal}
use Rattle.coap_record.specs.Legal as one
use Rattle.coap_promise.proofs.Paced.OneClock.{by_two}
use Rattle.coap_record.specs.Record.{Turn, RecordOf, entries_of, client_of, server_trace}
use Rattle.coap_promise.proofs.Delivery.ReportsAreTaken.{all_given}
use Rattle.coap_promise.proofs.Facts.Reports.Answered.{all_answered}
use Rattle.coap_promise.proofs.Facts.Requests.CallsInRange.{in_range_of, ranges_by}
use Rattle.coap_promise.proofs.Requests.ChangesOwned as O
use Rattle.coap_promise.proofs.Facts.Requests.HoldsChanges.{changes_held}
use Rattle.coap_promise.proofs.Requests.LocalChanges.{local_right}
use Rattle.coap_promise.proofs.Facts.Requests.Promised.{lawful_by, belongs_by, once_by, served_by}
use Rattle.coap_promise.proofs.Facts.Requests.OfACall.{Lawful}
use Rattle.coap_client_laws.proofs.Facts.EachCall.{reports_codes, all_ends, all_taken}
use Rattle.coap_promise.specs.Agrees.{Agrees}
use Rattle.coap_promise.specs.Applied.{EachBelongs, AppliedWhole, AtMostOnce}
use Rattle.coap_promise.specs.Bounds.{AreBounded}
use Rattle.coap_promise.specs.Done.{EachFailed, OnceDone, NeverFailed}
use Rattle.coap_promise.specs.Held.{EachHeld, EachValid, EachValue}
use Rattle.coap_promise.specs.Holds.{HoldsChanges, ChangesOwned}
use Rattle.coap_promise.specs.Rising.{HeldAreNamed, ValuesRise}
use Rattle.coap_promise.proofs.Uploads.AppliedWhole.{applied_whole}
use Rattle.coap_promise.proofs.Observations.HeldAreNamed.{all_named}
use Rattle.coap_promise.proofs.Facts.Observations.Rising.{all_rise}
use Rattle.coap_promise.proofs.Reports.Noticed.{all_noticed}
use Rattle.coap_promise.proofs.Reports.BodiesHeld.{each_held}
use Rattle.coap_promise.proofs.Reports.EachFailed.{each_failed}
use Rattle.coap_promise.proofs.Reports.NoneBeyond.{bounded}
use Rattle.coap_promise.proofs.Facts.Reports.FormatsSet.{formats_in_of}
use Rattle.coap_promise.proofs.Reports.ValidHeld.{each_valid}
use Rattle.coap_promise.proofs.Reports.ValuesHeld.{each_value}
use Rattle.coap_promise.proofs.Facts.Reports.NeverFailed.{never_failed}
use Rattle.coap_promise.proofs.Facts.Reports.OnceDone.{once_done}
use Rattle.coap_promise.proofs.Facts.Requests.AtAnyTime.{at_any_time}

module _ (k : Clocks) (config : Config) (events : List Event) (turns : List Turn) (run : RecordOf config events turns)
    (legal : Legal k config turns) where
  law : Lawful config (entries_of turns)
  law = lawful_by k config events turns run legal

  -- what is reported was held

  pub bodies : EachHeld config (entries_of turns)
  bodies = each_held config legal.range.server_szx (entries_of turns) (at_any_time law)
      (formats_in_of config.addresses turns run.made (ranges_by config.addresses k turns legal.events))

  pub valid : EachValid config (entries_of turns)
  valid = each_valid config (entries_of turns) (at_any_time law)

  pub values : EachValue config (entries_of turns)
  values = each_value config legal.range.server_szx (entries_of turns) (at_any_time law)
      (formats_in_of config.addresses turns run.made (ranges_by config.addresses k turns legal.events))

  -- the values of an observation rise

  pub rising : ValuesRise config (entries_of turns)
  rising = all_rise config legal.range.server_szx legal.range.limit (entries_of turns) law
      (formats_in_of config.addresses turns run.made (ranges_by config.addresses k turns legal.events))

  pub named : HeldAreNamed config (entries_of turns)
  named = all_named config (entries_of turns) (at_any_time law)

  -- what is asked is applied whole, at most once, once where success is reported, and never where Failed is

  pub belonging : EachBelongs config (entries_of turns)
  belonging = belongs_by k config events turns run legal

  pub whole : AppliedWhole config (entries_of turns)
  whole = applied_whole config (entries_of turns) legal.range.client_szx law
      (λ x h. in_range_of config.addresses x turns run.made (ranges_by config.addresses k turns legal.events) h)

  pub at_most_once : AtMostOnce config (entries_of turns)
  at_most_once = once_by k config events turns run legal

  pub done : OnceDone config (entries_of turns)
  done = once_done config (entries_of turns) legal.range.client_szx law
      (λ x h. in_range_of config.addresses x turns run.made (ranges_by config.addresses k turns legal.events) h)

  pub failed : NeverFailed config (entries_of turns)
  failed = never_failed config (entries_of turns) legal.range.client_szx law
      (λ x h. in_range_of config.addresses x turns run.made (ranges_by config.addresses k turns legal.events) h)

  pub refused : EachFailed config (entries_of turns)
  refused = each_failed config (entries_of turns) (at_any_time law)
      (λ x h. in_range_of config.addresses x turns run.made (ranges_by config.addresses k turns legal.events) h)

  pub holds : HoldsChanges config (entries_of turns)
  holds = changes_held config (entries_of turns) run.server

  pub owned : ChangesOwned config (entries_of turns)
  owned = O.owned config (entries_of turns) run.server.rows

  pub agrees_by : Agrees config (entries_of turns)
  agrees_by =
      let c = client_of (entries_of turns) in
      let s = server_trace config (entries_of turns) in
      record {
        each_held = bodies;
        each_valid = valid;
        each_value = values;
        values_rise = rising;
        held_are_named = named;
        each_belongs = belonging;
        applied_whole = whole;
        at_most_once = at_most_once;
        once_done = done;
        never_failed = failed;
        each_failed = refused;
        holds_changes = holds;
        changes_owned = owned;
        local_right = local_right config (entries_of turns) run.server.rows;
        served_right = served_by k config events turns run legal;
        served_once = server_facts.served config.limits config.server_szx config.server_setup s run.server;
        attended = server_facts.attended config.limits config.server_szx config.server_setup s run.server;
        ready_served = server_facts.ready config.limits config.server_szx config.server_setup s run.server;
        first_answered = server_facts.answered config.limits config.server_szx config.server_setup s run.server;
        answered = all_answered config (entries_of turns) (at_any_time law);
        noticed = all_noticed config (entries_of turns) (at_any_time law);
        calls_taken = all_taken config.addresses.server config.client_sizes config.client_setup c run.client;
        in_order = client_facts.order config.addresses.server config.client_sizes config.client_setup c run.client;
        codes_reported = reports_codes config.addresses.server config.client_sizes config.client_setup c run.client;
        ends_reported = all_ends config.addresses.server config.client_sizes config.client_setup c run.client;
        one_number = client_facts.numbers config.addresses.server config.client_sizes config.client_setup c run.client;
        one_report = client_facts.once config.addresses.server config.client_sizes config.client_setup c run.client;
        none_after = client_facts.none_after config.addresses.server config.client_sizes config.client_setup c
            run.client;
        all_given = all_given config turns run.made run.client.rows;
      }

  pub exchanges_bounded_by : AreBounded config (entries_of turns)
  exchanges_bounded_by = bounded config legal.range.server_szx legal.range.client_limit.0 (entries_of turns)
      (at_any_time law)
      (formats_in_of config.addresses turns run.made (ranges_by config.addresses k turns legal.events))

-- by one clock
module _ (config : Config) (events : List Event) (turns : List Turn) (run : RecordOf config events turns)
    (legal : one.Legal config turns) where
  pub agrees : Agrees config (entries_of turns)
  agrees = let two = by_two config turns legal in agrees_by two.0 config events turns run two.1
