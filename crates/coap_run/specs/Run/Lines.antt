-- A line of the record.
use Rattle.std.specs.Option.{option_map}
use Rattle.coap_client.specs.Object.CallAnswers.{refusal_in}
use Rattle.coap_client.specs.Object.Shown.{number_of, shown_reported}
use Rattle.coap_server.specs.Trace.{Applied}
use Rattle.coap_server.specs.Follows.Holds as server
use Rattle.coap_client.specs.declared.client.report.CallId.{CallId}
use Rattle.coap_resource.specs.Shown.{shown}
use Rattle.coap_run.specs.Run.Log.{Line, Begins, Takes, Cancels, Forgets, Puts, Removes, Applies, Changes, Out}
use Rattle.coap_run.specs.Run.Log.{Reports, Refused}
use Rattle.coap_run.specs.declared.running.record.AppliedRequest.{AppliedRequest}
use Rattle.coap_run.specs.declared.running.record.Change.{Change}
use Rattle.coap_run.specs.declared.running.record.Kind.{Kind}
use Rattle.coap_run.specs.declared.running.record.Kind.TheVariants as kind

module _ {A : Type 0} where
  abbrev pub request_of : AppliedRequest A → Applied
  request_of a = record { from = a.from; token = a.token; path = a.path; method = a.method; version = a.version }

  abbrev pub change_of : Change A → server.Change
  change_of c = record { path = c.path; version = c.version; held = shown c.held }

  abbrev pub line_of : Kind A → Line
  line_of (kind.Begins at) = Begins at.0
  line_of (kind.Takes answer) = Takes (number_of answer)
  line_of (kind.Cancels answer) = Cancels (refusal_in answer)
  line_of (kind.Forgets answer) = Forgets answer
  line_of (kind.Puts answer) = Puts answer
  line_of (kind.Removes answer) = Removes answer
  line_of (kind.Applies a) = Applies (option_map (λ (id : CallId). id.0) a.call) (request_of a)
  line_of (kind.Changes c) = Changes (change_of c)
  line_of kind.Out = Out
  line_of (kind.Reports id report) = Reports (shown_reported (id, report))
  line_of kind.Refused = Refused
