-- What is promised of a legal run, in whatever order its calls are made. It is what is promised of a record, but that a
-- report may wait to be taken.
use Rattle.std.specs.Prelude.{◌≡◌, ℕ, ◌+◌, Some, List}
use Rattle.coap_types.specs.Past.{Always, Sometime}
use Rattle.coap_types.specs.declared.transmission.TheConstants.{EXCHANGE_LIFETIME_MS as exchange_lifetime}
use Rattle.coap_layer.specs.Clocks.{max_gain}
use Rattle.coap_client.specs.Trace.{NextReport, Reported}
use Rattle.coap_client_laws.specs.Follows.Answered.{NoneAfter, ReportedOnce}
use Rattle.coap_client_laws.specs.Follows.Codes.{ReportsCodes}
use Rattle.coap_client_laws.specs.Follows.Ends.{AllEnds}
use Rattle.coap_client_laws.specs.Follows.Gives.{GivesInOrder}
use Rattle.coap_client_laws.specs.Follows.Numbers.{NumbersOnce}
use Rattle.coap_client_laws.specs.Follows.Order.{AreInOrder}
use Rattle.coap_client_laws.specs.Follows.Taken.{AllTaken}
use Rattle.coap_server.specs.Follows.Attended.{AllAttended, FirstIsAnswered}
use Rattle.coap_server.specs.Follows.Serves.{ServedOnce}
use Rattle.coap_server.specs.Follows.Waits.{ReadyAreServed}
use Rattle.coap_promise.specs.Answers.{AllAnswered}
use Rattle.coap_promise.specs.Applied.{AppliedWhole, AtMostOnce, EachBelongs}
use Rattle.coap_promise.specs.Bounds.{AreBounded}
use Rattle.coap_promise.specs.Clocks.{Clocks}
use Rattle.coap_promise.specs.Done.{EachFailed, NeverFailed, OnceDone}
use Rattle.coap_promise.specs.Held.{EachHeld, EachValid, EachValue}
use Rattle.coap_promise.specs.Holds.{ChangesOwned, HoldsChanges}
use Rattle.coap_promise.specs.Local.{LocalRight}
use Rattle.coap_promise.specs.Noticed.{AllNoticed}
use Rattle.coap_promise.specs.Rising.{HeldAreNamed, ValuesRise}
use Rattle.coap_promise.specs.Serves.{AllServed}
use Rattle.coap_promise.specs.Words.{ReportsAt}
use Rattle.coap_record.specs.Events.{Config}
use Rattle.coap_record.specs.Record.{Entry, OfClient, client_of, server_trace}
use Rattle.coap_order.specs.Fresh.{AreFresh}

module _ (config : Config) where
  -- What the program takes was reported before, by an input of the client.
  abbrev pub TakenWereReported : List Entry → Type 0
  TakenWereReported run = (r : Reported) → Always (λ past e. e ≡ OfClient (NextReport (Some r))
      → Sometime (ReportsAt config r) past) run

  -- A report is made by an input, and taken then, later or never: here it is where it is made.
  pub record Agrees (run : List Entry) : Type 0 where
    -- each body, value and valid representation that is reported was held at its path between call and report; the
    -- values of an observation have rising versions
    pub each_held : EachHeld config run
    pub each_valid : EachValid config run
    pub each_value : EachValue config run
    pub values_rise : ValuesRise config run
    pub held_are_named : HeldAreNamed config run
    -- each applied request belongs to a call, and is applied whole, at most once, once where success is reported, and
    -- never where Failed is reported, which the server said
    pub each_belongs : EachBelongs config run
    pub applied_whole : AppliedWhole config run
    pub at_most_once : AtMostOnce config run
    pub once_done : OnceDone config run
    pub never_failed : NeverFailed config run
    pub each_failed : EachFailed config run
    -- what the server holds are its changes, each owned
    pub holds_changes : HoldsChanges config run
    pub changes_owned : ChangesOwned config run
    pub local_right : LocalRight config run
    -- each request that is handed up is served, once, or answered, or waits
    pub served_right : AllServed config run
    pub served_once : ServedOnce config.limits config.server_szx (server_trace config run)
    pub attended : AllAttended config.limits config.server_szx (server_trace config run)
    pub ready_served : ReadyAreServed config.limits config.server_szx (server_trace config run)
    pub first_answered : FirstIsAnswered config.limits config.server_szx config.server_setup (server_trace config run)
    -- each answer and each notification that the client takes was made by the server before
    pub answered : AllAnswered config run
    pub noticed : AllNoticed config run
    -- calls are taken, follow each other, and end in reports by their codes, of which a number has one last
    pub calls_taken : AllTaken config.client_sizes (client_of run)
    pub in_order : AreInOrder config.client_sizes (client_of run)
    pub codes_reported : ReportsCodes config.client_sizes (client_of run)
    pub ends_reported : AllEnds config.client_sizes (client_of run)
    pub one_number : NumbersOnce (client_of run)
    pub one_report : ReportedOnce config.addresses.server config.client_sizes config.client_setup (client_of run)
    pub none_after : NoneAfter config.addresses.server config.client_sizes config.client_setup (client_of run)
    -- what is taken was reported; reports are taken in their order, each once, but for those of a forgotten number
    pub taken : TakenWereReported run
    pub given_in_order : GivesInOrder config.client_sizes (client_of run)

  -- .. and that is not old, and no call makes too many exchanges
  pub record IsPromised (c : Clocks) (run : List Entry) : Type 0 where
    pub agrees : Agrees run
    pub fresh : AreFresh config c (exchange_lifetime + max_gain) run
    pub bounded : AreBounded config run

  -- what is promised however late datagrams are, and however the clocks run
  pub record IsPromisedEver (run : List Entry) : Type 0 where
    pub held : EachHeld config run
    pub valid : EachValid config run
    pub value : EachValue config run
    pub named : HeldAreNamed config run
    pub belongs : EachBelongs config run
    pub served : AllServed config run
    pub done : OnceDone config run
    pub refused : EachFailed config run
    pub answered : AllAnswered config run
    pub noticed : AllNoticed config run
    pub bounded : AreBounded config run
    pub taken : TakenWereReported run
