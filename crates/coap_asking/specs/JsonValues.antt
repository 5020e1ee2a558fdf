-- How the values of an observation are printed (docs/PROGRAM.md): each by a line of its own, until it is over.
use Rattle.std.specs.Prelude.{◌≡◌, ℕ, Bool, true, false, List, Option, None, Some, if◌then◌else◌}
use Rattle.coap_client.specs.Trace.{Report, is_value}
use Rattle.coap_json.specs.ReportObjects.{report_object}
use Rattle.coap_types.specs.declared.endpoint.Moment.{Moment}
use Rattle.coap_arguments.specs.declared.orders.AskOptions.{AskOptions}
use Rattle.coap_json.specs.Objects.{WritesObject}
use Rattle.coap_asking.specs.Printed.{WritesLine}
use Rattle.coap_asking.specs.declared.observe.Form.{Form}
use Rattle.coap_asking.specs.declared.observe.Form.TheVariants.{Bytes, Hex, Json}

-- in JSON, where the options say so, at this moment; else in hex, where they say that
abbrev pub form_of : AskOptions → Moment → Form
form_of options now = if options.json then Json now else (if options.hex then Hex else Bytes)

-- a value that comes before the observation is over is written as its line, and of no other report anything is
abbrev pub WritesReport : (is_value is_over : Bool) → (at : ℕ) → (old new : Option (List ℕ)) → Report → Type 0
WritesReport false is_over at old new report = new ≡ old
WritesReport true true at old new report = new ≡ old
WritesReport true false at old new report = WritesObject old new (report_object at report)

abbrev pub WritesValue : Form → Bool → (old new : Option (List ℕ)) → Report → Type 0
WritesValue Bytes is_over old new report = WritesLine false is_over old new report
WritesValue Hex is_over old new report = WritesLine true is_over old new report
WritesValue (Json at) is_over old new report = WritesReport (is_value report) is_over at.0 old new report

-- .. where one is taken
abbrev pub WritesTook : Form → Bool → (old new : Option (List ℕ)) → Option Report → Type 0
WritesTook form is_over old new None = new ≡ old
WritesTook form is_over old new (Some report) = WritesValue form is_over old new report
