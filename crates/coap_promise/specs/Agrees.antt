-- What is promised of the record of a legal run.
use Rattle.std.specs.Prelude.{List}
use Rattle.coap_client_laws.specs.Follows.Answered.{NoneAfter, ReportedOnce}
use Rattle.coap_client_laws.specs.Follows.Numbers.{NumbersOnce}
use Rattle.coap_client_laws.specs.Follows.Order.{AreInOrder}
use Rattle.coap_server.specs.Follows.Attended.{AllAttended, FirstIsAnswered}
use Rattle.coap_server.specs.Follows.Serves.{ServedOnce}
use Rattle.coap_server.specs.Follows.Waits.{ReadyAreServed}
use Rattle.coap_promise.specs.Applied.{EachBelongs, AppliedWhole, AtMostOnce}
use Rattle.coap_promise.specs.Answers.{AllAnswered}
use Rattle.coap_record.specs.Events.{Config}
use Rattle.coap_promise.specs.Given.{AllGiven}
use Rattle.coap_promise.specs.Held.{EachHeld, EachValid, EachValue}
use Rattle.coap_promise.specs.Holds.{HoldsChanges, ChangesOwned}
use Rattle.coap_promise.specs.Local.{LocalRight}
use Rattle.coap_promise.specs.Noticed.{AllNoticed}
use Rattle.coap_record.specs.Record.{Entry, client_of, server_trace}
use Rattle.coap_promise.specs.Rising.{HeldAreNamed, ValuesRise}
use Rattle.coap_promise.specs.Serves.{AllServed}
use Rattle.coap_client_laws.specs.Follows.Codes.{ReportsCodes}
use Rattle.coap_client_laws.specs.Follows.Ends.{AllEnds}
use Rattle.coap_client_laws.specs.Follows.Taken.{AllTaken}
use Rattle.coap_promise.specs.Done.{EachFailed, OnceDone, NeverFailed}

module _ (config : Config) where
  pub record Agrees (all : List Entry) : Type 0 where
    -- each body, value and valid representation that is reported was held at its path between call and report; the
    -- values of an observation have rising versions
    pub each_held : EachHeld config all
    pub each_valid : EachValid config all
    pub each_value : EachValue config all
    pub values_rise : ValuesRise config all
    -- .. and a version has one entity-tag
    pub held_are_named : HeldAreNamed config all
    -- each applied request belongs to a call, and is applied whole, as that asks; at most one, one where success is
    -- reported, and none where Failed is reported
    pub each_belongs : EachBelongs config all
    pub applied_whole : AppliedWhole config all
    pub at_most_once : AtMostOnce config all
    pub once_done : OnceDone config all
    pub never_failed : NeverFailed config all
    -- .. which the server said between call and report, and what 4.04 and 4.12 say of the path was so there
    pub each_failed : EachFailed config all
    -- what the server holds are its changes, each owned; a local one does what it answers
    pub holds_changes : HoldsChanges config all
    pub changes_owned : ChangesOwned config all
    pub local_right : LocalRight config all
    -- each request that is handed up is served, by the table of the methods, and applied where its preconditions hold
    pub served_right : AllServed config all
    -- .. and none is served twice (RFC 7252, section 4.5)
    pub served_once : ServedOnce config.limits config.server_szx (server_trace config all)
    -- it is served or answered, or waits; one that waits is served when its delay has passed and it can be answered
    pub attended : AllAttended config.limits config.server_szx (server_trace config all)
    pub ready_served : ReadyAreServed config.limits config.server_szx (server_trace config all)
    pub first_answered : FirstIsAnswered config.limits config.server_szx config.server_setup (server_trace config all)
    -- each answer and each notification that the client takes was made by the server before
    pub answered : AllAnswered config all
    pub noticed : AllNoticed config all
    -- a call and an observation are refused exactly where they have to be, and what waits starts in its order; the
    -- requests of a call follow each other
    pub calls_taken : AllTaken config.client_sizes (client_of all)
    pub in_order : AreInOrder config.client_sizes (client_of all)
    -- each report is of a call or an observation; a response is reported by its code; a Reset, a failure and want of a
    -- response are reported, each where the exchange of a call, a registration or a cancel ends so
    pub codes_reported : ReportsCodes config.client_sizes (client_of all)
    pub ends_reported : AllEnds config.client_sizes (client_of all)
    -- a number is given once, and has at most one last report, behind which nothing is sent for it; all reports are
    -- taken
    pub one_number : NumbersOnce (client_of all)
    pub one_report : ReportedOnce config.addresses.server config.client_sizes config.client_setup (client_of all)
    pub none_after : NoneAfter config.addresses.server config.client_sizes config.client_setup (client_of all)
    pub all_given : AllGiven config all
