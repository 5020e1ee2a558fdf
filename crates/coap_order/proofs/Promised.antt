-- What is promised of a legal run itself, clause by clause.
use Rattle.std.proofs.Common.{ℕ, ◌+◌, ◌^◌, List}
use Rattle.coap_layer.specs.Clocks.{max_gain}
use Rattle.coap_types.specs.declared.transmission.TheConstants.{EXCHANGE_LIFETIME_MS as exchange_lifetime}
use Rattle.coap_client.specs.Sendings.{Taken, WasTaken}
use Rattle.coap_client.specs.Trace as C
use Rattle.coap_client_laws.proofs.Facts.EachCall.{all_ends, all_taken, reports_codes}
use Rattle.coap_client_laws.proofs.Facts.Laws as client_facts
use Rattle.coap_server.specs.Trace as S
use Rattle.coap_server_laws.proofs.Facts.Laws as server_facts
use Rattle.coap_promise.specs.Clocks.{Clocks}
use Rattle.coap_promise.proofs.Any.Reports.OnceDone as any_done
use Rattle.coap_promise.proofs.Any.Requests.OfACall as any
use Rattle.coap_promise.proofs.Facts.Observations.Rising.{all_rise}
use Rattle.coap_promise.proofs.Facts.Reports.Answered.{all_answered}
use Rattle.coap_promise.proofs.Facts.Reports.FormatsSet.{FormatsIn}
use Rattle.coap_promise.proofs.Facts.Reports.NeverFailed.{never_failed}
use Rattle.coap_promise.proofs.Facts.Reports.OnceDone.{once_done}
use Rattle.coap_promise.proofs.Facts.Requests.AtAnyTime.{at_any_time}
use Rattle.coap_promise.proofs.Facts.Requests.Belongs.{each_belongs}
use Rattle.coap_promise.proofs.Facts.Requests.HoldsChanges.{changes_held}
use Rattle.coap_promise.proofs.Facts.Requests.OfACall.{Lawful}
use Rattle.coap_promise.proofs.Observations.HeldAreNamed.{all_named}
use Rattle.coap_promise.proofs.Reports.BodiesHeld.{each_held}
use Rattle.coap_promise.proofs.Reports.EachFailed.{each_failed}
use Rattle.coap_promise.proofs.Reports.NoneBeyond.{bounded}
use Rattle.coap_promise.proofs.Reports.Noticed.{all_noticed}
use Rattle.coap_promise.proofs.Reports.ValidHeld.{each_valid}
use Rattle.coap_promise.proofs.Reports.ValuesHeld.{each_value}
use Rattle.coap_promise.proofs.Requests.AtMostOnce.{at_most_once}
use Rattle.coap_promise.proofs.Requests.ChangesOwned as changes
use Rattle.coap_promise.proofs.Requests.LocalChanges.{local_right}
use Rattle.coap_promise.proofs.Requests.ServedRight.{served_right}
use Rattle.coap_promise.proofs.Uploads.AppliedWhole.{applied_whole}
use Rattle.coap_record.specs.Events.{Config}
use Rattle.coap_record.specs.Legal.{IsConfig, IsRequest, max_delivery}
use Rattle.coap_record.specs.Record.{Entry, client_of, server_trace}
use Rattle.coap_order.specs.Agrees.{Agrees, IsPromised, IsPromisedEver}
use Rattle.coap_order.specs.Run.{AnyRun, LegalRun, RunOf}
use Rattle.coap_order.proofs.Fresh.{all_fresh}
use Rattle.coap_order.proofs.Lawful.{all_go, formats, in_range, lawful, lawful_ever, places}
use Rattle.coap_order.proofs.Taken.{taken_reported}

-- of calls whose laws hold, in range
module _ (config : Config) (range : IsConfig config) (run : List Entry) (runs : RunOf config run)
    (law : Lawful config run)
    (formats_are : FormatsIn run) (requests_are : (x : Taken) → WasTaken x (client_of run) → IsRequest x.request) where
  ever : any.Lawful config run
  ever = at_any_time law

  pub agrees : Agrees config run
  agrees =
      let c : List C.Call = client_of run in
      let s : List S.Call = server_trace config run in
      record {
        each_held = each_held config range.server_szx run ever formats_are;
        each_valid = each_valid config run ever;
        each_value = each_value config range.server_szx run ever formats_are;
        values_rise = all_rise config range.server_szx range.limit run law formats_are;
        held_are_named = all_named config run ever;
        each_belongs = each_belongs config run ever;
        applied_whole = applied_whole config run range.client_szx law requests_are;
        at_most_once = at_most_once config run range.client_szx law requests_are;
        once_done = once_done config run range.client_szx law requests_are;
        never_failed = never_failed config run range.client_szx law requests_are;
        each_failed = each_failed config run ever requests_are;
        holds_changes = changes_held config run runs.server;
        changes_owned = changes.owned config run runs.server.rows;
        local_right = local_right config run runs.server.rows;
        served_right = served_right config run ever;
        served_once = server_facts.served config.limits config.server_szx config.server_setup s runs.server;
        attended = server_facts.attended config.limits config.server_szx config.server_setup s runs.server;
        ready_served = server_facts.ready config.limits config.server_szx config.server_setup s runs.server;
        first_answered = server_facts.answered config.limits config.server_szx config.server_setup s runs.server;
        answered = all_answered config run ever;
        noticed = all_noticed config run ever;
        calls_taken = all_taken config.addresses.server config.client_sizes config.client_setup c runs.client;
        in_order = client_facts.order config.addresses.server config.client_sizes config.client_setup c runs.client;
        codes_reported = reports_codes config.addresses.server config.client_sizes config.client_setup c runs.client;
        ends_reported = all_ends config.addresses.server config.client_sizes config.client_setup c runs.client;
        one_number = client_facts.numbers config.addresses.server config.client_sizes config.client_setup c runs.client;
        one_report = client_facts.once config.addresses.server config.client_sizes config.client_setup c runs.client;
        none_after = client_facts.none_after config.addresses.server config.client_sizes config.client_setup c
            runs.client;
        taken = taken_reported config run runs.client.rows;
        given_in_order = client_facts.waits config.client_sizes c runs.client.rows;
      }

module _ (config : Config) (c : Clocks) (run : List Entry) (runs : RunOf config run) where
  pub is_promised : LegalRun config c run → IsPromised config c run
  is_promised legal =
      let law = lawful config c run runs legal in
      let formats_are = formats config c max_delivery run legal.calls in
      record {
        agrees = agrees config legal.range run runs law formats_are
            (λ x h. in_range config c max_delivery x run legal.calls h);
        fresh = all_fresh config c run legal runs;
        bounded = bounded config legal.range.server_szx legal.range.client_limit.0 run (at_any_time law) formats_are;
      }

  pub is_promised_ever : AnyRun config c run → IsPromisedEver config run
  is_promised_ever legal =
      let law = lawful_ever config c run runs legal in
      let formats_are = formats config c (2 ^ 64) run legal.calls in
      let requests_are : (x : Taken) → WasTaken x (client_of run) → IsRequest x.request =
      λ x h. in_range config c (2 ^ 64) x run legal.calls h in
      record {
        held = each_held config legal.range.server_szx run law formats_are;
        valid = each_valid config run law;
        value = each_value config legal.range.server_szx run law formats_are;
        named = all_named config run law;
        belongs = each_belongs config run law;
        served = served_right config run law;
        done = any_done.once_done config run legal.range.client_szx law requests_are;
        refused = each_failed config run law requests_are;
        answered = all_answered config run law;
        noticed = all_noticed config run law;
        bounded = bounded config legal.range.server_szx legal.range.client_limit.0 run law formats_are;
        taken = taken_reported config run runs.client.rows;
      }
