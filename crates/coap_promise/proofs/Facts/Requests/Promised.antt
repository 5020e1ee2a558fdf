-- What is promised of the requests of a legal run.
use Rattle.std.proofs.Common.{List}
use Rattle.coap_promise.specs.Applied.{EachBelongs, AtMostOnce}
use Rattle.coap_promise.specs.CameFrom.{CamesFrom, ComesIn}
use Rattle.coap_record.specs.Events.{Config, Event}
use Rattle.coap_promise.specs.Clocks.{Clocks, of_layers, Legal}
use Rattle.coap_record.specs.Legal as one
use Rattle.coap_record.specs.Record.{Turn, RecordOf, entries_of}
use Rattle.coap_promise.proofs.Paced.HopsAreAChannel as joined
use Rattle.coap_promise.proofs.Paced.OneClock.{by_two}
use Rattle.coap_promise.proofs.Requests.AtMostOnce.{at_most_once}
use Rattle.coap_promise.proofs.Facts.Requests.Belongs.{each_belongs}
use Rattle.coap_promise.proofs.Facts.Requests.CallsInRange.{in_range_of, ranges_by}
use Rattle.coap_promise.proofs.Facts.Requests.CameFrom.{came_from, comes_in}
use Rattle.coap_promise.specs.Serves.{AllServed}
use Rattle.coap_promise.proofs.Facts.Requests.NoneRefused.{none_refused}
use Rattle.coap_promise.proofs.Facts.Requests.OfACall.{Lawful}
use Rattle.coap_promise.proofs.Requests.ServedRight.{served_right}
use Rattle.coap_promise.proofs.Facts.Requests.AtAnyTime.{at_any_time}

module _ (c : Clocks) (config : Config) (events : List Event) (turns : List Turn) (run : RecordOf config events turns)
    (legal : Legal c config turns) where
  pub comes_by : ComesIn config (of_layers c) (entries_of turns)
  comes_by = comes_in config (of_layers c) (entries_of turns) (joined.channel c config events turns run legal)
      run.client

  pub came_by : CamesFrom config (entries_of turns)
  came_by = came_from config (of_layers c) (entries_of turns) comes_by

  pub lawful_by : Lawful config (entries_of turns)
  lawful_by = record {
    clocks = of_layers c;
    channel = joined.channel c config events turns run legal;
    client = run.client;
    server = run.server;
    comes = comes_by;
    came = came_by;
    unrefused = none_refused config.addresses turns run.made;
  }

  pub once_by : AtMostOnce config (entries_of turns)
  once_by = at_most_once config (entries_of turns) legal.range.client_szx lawful_by
      (λ x h. in_range_of config.addresses x turns run.made (ranges_by config.addresses c turns legal.events) h)

  pub belongs_by : EachBelongs config (entries_of turns)
  belongs_by = each_belongs config (entries_of turns) (at_any_time lawful_by)

  pub served_by : AllServed config (entries_of turns)
  served_by = served_right config (entries_of turns) (at_any_time lawful_by)

-- by one clock
module _ (config : Config) (events : List Event) (turns : List Turn) (run : RecordOf config events turns)
    (legal : one.Legal config turns) where
  pub lawful : Lawful config (entries_of turns)
  lawful = let two = by_two config turns legal in lawful_by two.0 config events turns run two.1

  pub came : CamesFrom config (entries_of turns)
  came = lawful.came

  pub once : AtMostOnce config (entries_of turns)
  once = let two = by_two config turns legal in once_by two.0 config events turns run two.1

  pub belongs : EachBelongs config (entries_of turns)
  belongs = let two = by_two config turns legal in belongs_by two.0 config events turns run two.1

  pub served : AllServed config (entries_of turns)
  served = let two = by_two config turns legal in served_by two.0 config events turns run two.1
