-- What is written where a program tells in JSON: an object a line (docs/PROGRAM.md).
use Rattle.std.specs.Prelude.{◌≡◌, ℕ, Bool, true, false, ⊤, List, Option}
use Rattle.json.specs.Json.{Json}
use Rattle.coap_types.specs.declared.endpoint.Endpoint.{Endpoint}
use Rattle.coap_types.specs.declared.request.Method.{Method}
use Rattle.coap_layer.specs.declared.setup.Setup.{Setup}
use Rattle.coap_block.specs.Sizes.{Sizes}
use Rattle.coap_client.specs.Object.Shown.{shown_report}
use Rattle.coap_client.specs.Trace.{Request}
use Rattle.coap_json.specs.OtherObjects.{gave_up_object, refused_object}
use Rattle.coap_json.specs.ReportObjects.{report_object}
use Rattle.coap_waits.specs.Asks.{Becomes, status_after}
use Rattle.coap_waits.specs.Printed.{WritesInWords}
use Rattle.coap_status.specs.declared.status.Status.{Status}
use Rattle.coap_waits.specs.declared.calling.Outcome.{Outcome}
use Rattle.coap_waits.specs.declared.calling.Outcome.TheVariants.{GaveUp, Refused, Reported}
use Rattle.coap_json.specs.Objects.{WritesObject}

-- the object of what became of a request, told at this moment
abbrev pub outcome_object : ℕ → Outcome → Json
outcome_object ms (Refused why) = refused_object ms why
outcome_object ms (Reported report) = report_object ms (shown_report report)
outcome_object ms (GaveUp seconds) = gave_up_object ms seconds

-- where it is told in JSON, this is what is written of what became of a request
abbrev pub WritesOutcome : Bool → (old new : Option (List ℕ)) → Outcome → Type 0
WritesOutcome false old new outcome = ⊤
WritesOutcome true old new outcome = (ms : ℕ) × WritesObject old new (outcome_object ms outcome)

-- .. or in words
abbrev pub WritesRequest : Bool → Method → (old new : Option (List ℕ)) → Outcome → Type 0
WritesRequest true method old new outcome = WritesOutcome true old new outcome
WritesRequest false method old new outcome = WritesInWords method old new outcome

-- how an observation ended is written in JSON, where that is wanted, and else nothing is
abbrev pub WritesEnd : Bool → (old new : Option (List ℕ)) → Outcome → Type 0
WritesEnd true old new ended = WritesOutcome true old new ended
WritesEnd false old new ended = new ≡ old

-- a client is asked this, the status is that of what becomes of it, and this is written
abbrev pub Tells : Bool → (old new : Option (List ℕ)) → Endpoint → (sizes : Sizes) → Setup → Option ℕ → Request
    → Status → Type 0
Tells json old new server sizes setup give_up request status =
    (outcome : Outcome) × Becomes server sizes setup give_up request outcome
    × (status ≡ status_after request.method outcome) × WritesRequest json request.method old new outcome
