use Rattle.std.proofs.Common.{List, [], ◌∷◌}
use Rattle.coap_types.specs.Past.{Always}
use Rattle.coap_promise.specs.AtAnyTime.{IsLegal, Legal}
use Rattle.coap_promise.specs.Clocks.{Clocks}
use Rattle.coap_record.specs.Events.{Config, Event}
use Rattle.coap_record.specs.Record.{Turn, RecordOf, entries_of}
use Rattle.coap_promise.proofs.Age.Behind.{are_behind}
use Rattle.coap_promise.proofs.Observations.HeldAreNamed.{all_named}
use Rattle.coap_promise.proofs.Facts.Reports.Answered.{all_answered}
use Rattle.coap_promise.proofs.Reports.BodiesHeld.{each_held}
use Rattle.coap_promise.proofs.Reports.EachFailed.{each_failed}
use Rattle.coap_promise.proofs.Reports.NoneBeyond as beyond
use Rattle.coap_promise.proofs.Reports.Noticed.{all_noticed}
use Rattle.coap_promise.proofs.Any.Reports.OnceDone.{once_done}
use Rattle.coap_promise.proofs.Reports.ValidHeld.{each_valid}
use Rattle.coap_promise.proofs.Reports.ValuesHeld.{each_value}
use Rattle.coap_promise.proofs.Facts.Requests.Belongs.{each_belongs}
use Rattle.coap_promise.proofs.Any.Requests.OfACall.{Lawful}
use Rattle.coap_promise.proofs.Facts.Requests.NoneRefused.{none_refused}
use Rattle.coap_promise.proofs.Requests.ServedRight.{served_right}
use Rattle.coap_promise.proofs.Paced.AtAnyTime.{fair}
use Rattle.coap_promise.proofs.Paced.CameAtAnyTime.{came_at_any_time}
use Rattle.coap_promise.proofs.Facts.Reports.FormatsSet.{FormatsIn, formats_in_of}
use Rattle.coap_promise.proofs.Facts.Requests.CallsInRange.{AreInRange, in_range_of}
use Rattle.coap_promise.proofs.laws.any_time_law.Goals as goal
use Rattle.coap_record.specs.declared.addresses.Addresses.{Addresses}

ranges : (addresses : Addresses) (c : Clocks) (turns : List Turn) → Always (IsLegal addresses c) turns
    → AreInRange turns
ranges addresses c [] legal = tt
ranges addresses c (t ∷ past) legal = (legal.0.range, ranges addresses c past legal.1)

lawful : (c : Clocks) (config : Config) (events : List Event) (turns : List Turn) → RecordOf config events turns
    → Legal c config turns → Lawful config (entries_of turns)
lawful c config events turns run legal =
    let law = fair c config events turns run legal in
    record {
      fair = law;
      client = run.client;
      server = run.server;
      came = came_at_any_time config (entries_of turns) law run.client;
      unrefused = none_refused config.addresses turns run.made;
    }

formats : (c : Clocks) (config : Config) (events : List Event) (turns : List Turn) → RecordOf config events turns
    → Legal c config turns → FormatsIn (entries_of turns)
formats c config events turns run legal = formats_in_of config.addresses turns run.made
    (ranges config.addresses c turns legal.events)

pub returns-clause-came : goal.returns-clause-came
returns-clause-came c k config events turns run legal =
    (lawful k config events turns run legal).came

pub returns-clause-held : goal.returns-clause-held
returns-clause-held c k config events turns run legal =
    each_held config legal.range.server_szx (entries_of turns) (lawful k config events turns run legal)
    (formats k config events turns run legal)

pub returns-clause-valid : goal.returns-clause-valid
returns-clause-valid c k config events turns run legal =
    each_valid config (entries_of turns) (lawful k config events turns run legal)

pub returns-clause-value : goal.returns-clause-value
returns-clause-value c k config events turns run legal =
    each_value config legal.range.server_szx (entries_of turns) (lawful k config events turns run legal)
    (formats k config events turns run legal)

pub returns-clause-named : goal.returns-clause-named
returns-clause-named c k config events turns run legal =
    all_named config (entries_of turns) (lawful k config events turns run legal)

pub returns-clause-belongs : goal.returns-clause-belongs
returns-clause-belongs c k config events turns run legal =
    each_belongs config (entries_of turns) (lawful k config events turns run legal)

pub returns-clause-served : goal.returns-clause-served
returns-clause-served c k config events turns run legal =
    served_right config (entries_of turns) (lawful k config events turns run legal)

pub returns-clause-done : goal.returns-clause-done
returns-clause-done c k config events turns run legal =
    once_done config (entries_of turns) legal.range.client_szx (lawful k config events turns run legal)
    (λ x h. in_range_of config.addresses x turns run.made (ranges config.addresses k turns legal.events) h)

pub returns-clause-refused : goal.returns-clause-refused
returns-clause-refused c k config events turns run legal =
    each_failed config (entries_of turns) (lawful k config events turns run legal)
    (λ x h. in_range_of config.addresses x turns run.made (ranges config.addresses k turns legal.events) h)

pub returns-clause-answered : goal.returns-clause-answered
returns-clause-answered c k config events turns run legal =
    all_answered config (entries_of turns) (lawful k config events turns run legal)

pub returns-clause-noticed : goal.returns-clause-noticed
returns-clause-noticed c k config events turns run legal =
    all_noticed config (entries_of turns) (lawful k config events turns run legal)

pub returns-clause-bounded : goal.returns-clause-bounded
returns-clause-bounded c k config events turns run legal =
    beyond.bounded config legal.range.server_szx legal.range.client_limit.0 (entries_of turns)
    (lawful k config events turns run legal) (formats k config events turns run legal)

pub returns-clause-behind : goal.returns-clause-behind
returns-clause-behind c k config events turns run legal =
    are_behind config legal.range.server_szx (entries_of turns) (lawful k config events turns run legal)
    (formats k config events turns run legal)
