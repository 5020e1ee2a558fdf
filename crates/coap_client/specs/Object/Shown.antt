-- What contracts see of a client's operations, observations and reports (RFC 7252, section 5.1).
use Rattle.std.specs.Prelude.{ℕ, Option, Some, None, Result, Ok, Err}
use Rattle.std.specs.Option.{option_map}
use Rattle.coap_client.specs.declared.refusals.CallRefusal.{CallRefusal}
use Rattle.coap_client.specs.Trace.{Report, Reported, Requested, Body, Valid, Done, Value, Ended}
use Rattle.coap_client.specs.Trace.{Cancelled, Failed, Timeout, Reset, NoResponse, Changed, BadBlock}
use Rattle.coap_client.specs.Trace.{NoTag, TooLarge, NoIds}
use Rattle.coap_client.specs.Own.{Operation, Calling, Registering, Fetching, Cancelling, Dropped}
use Rattle.coap_client.specs.Own.{Notified, Observation}
use Rattle.coap_operations.specs.declared.queued.Queued.{Queued}
use Rattle.coap_operations.specs.declared.queued.Queued.TheVariants.{Starts, Cancels}
use Rattle.coap_operations.specs.declared.running.Running.{Running}
use Rattle.coap_operations.specs.declared.running.Running.TheVariants as running
use Rattle.coap_client.specs.declared.client.operation.Waiting as W
use Rattle.coap_client.specs.declared.client.operation.Waiting.TheVariants as waiting
use Rattle.coap_client.specs.declared.client.operation.Notified as N
use Rattle.coap_client.specs.declared.client.operation.Observation as B
use Rattle.coap_client.specs.declared.client.last_request.SentRequest.{SentRequest}
use Rattle.coap_client.specs.declared.client.report.CallId.{CallId}
use Rattle.coap_client.specs.declared.client.report.Report as R
use Rattle.coap_client.specs.declared.client.report.Report.TheVariants as report

module _ {A : Type 0} where
  -- what waits or runs
  abbrev pub shown_waiting : W.Waiting A → Operation
  shown_waiting (waiting.Calling number c) = Calling number c.request c.transfer
  shown_waiting (waiting.Registering number path) = Registering number path

  -- what runs
  abbrev pub shown_operation : Running (W.Waiting A) → Operation
  shown_operation (running.Started w) = shown_waiting w
  shown_operation (running.Fetching number) = Fetching number
  shown_operation (running.Cancelling number) = Cancelling number
  shown_operation running.Dropped = Dropped

  abbrev pub shown_queued : Queued (W.Waiting A) → Operation
  shown_queued (Starts w) = shown_waiting w
  shown_queued (Cancels number) = Cancelling number

  abbrev pub shown_rest : N.Notified A → Notified
  shown_rest n = record { sequence = n.sequence; fetch = n.fetch.state }

  abbrev pub shown_observation : B.Observation A → Observation
  shown_observation o = record {
    number = o.number;
    path = o.path;
    token = o.token;
    watch = o.watch;
    rest =
        option_map shown_rest o.rest;
  }

  abbrev pub shown_report : R.Report A → Report
  shown_report (report.Body f) = Body f.tag f.format f.body
  shown_report (report.Valid tag) = Valid tag
  shown_report (report.Done code) = Done code.0
  shown_report (report.Value sequence f) = Value sequence f.tag f.format f.body
  shown_report (report.Ended code) = Ended code.0
  shown_report report.Cancelled = Cancelled
  shown_report (report.Failed code) = Failed code.0
  shown_report report.Timeout = Timeout
  shown_report report.Reset = Reset
  shown_report report.NoResponse = NoResponse
  shown_report report.Changed = Changed
  shown_report report.BadBlock = BadBlock
  shown_report report.NoTag = NoTag
  shown_report report.TooLarge = TooLarge
  shown_report report.NoIds = NoIds

  -- what is reported of a number, if anything
  abbrev pub reported : ℕ → Option (R.Report A) → Option Reported
  reported number None = None
  reported number (Some r) = Some (record { number = number; report = shown_report r })

  abbrev pub shown_reported : CallId × R.Report A → Reported
  shown_reported r = record { number = r.0.0; report = shown_report r.1 }

-- the request that was sent
abbrev pub shown_asked : Option SentRequest → Option Requested
shown_asked None = None
shown_asked (Some r) = Some (record { number = r.call.0; token = r.token })

-- the number that a call is given
abbrev pub number_of : Result CallId CallRefusal → Result ℕ CallRefusal
number_of (Ok id) = Ok id.0
number_of (Err why) = Err why
