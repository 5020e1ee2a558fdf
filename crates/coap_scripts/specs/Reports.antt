-- A report on a line.
use Rattle.std.specs.Prelude.{ℕ, List, codes, decimal, ◌++◌, Option, None, Some}
use Rattle.coap_types.specs.Text.{code_text}
use Rattle.coap_client.specs.declared.client.report.Fetched.{Fetched}
use Rattle.coap_client.specs.declared.client.report.Report as R
use Rattle.coap_client.specs.declared.client.report.Report.TheVariants as report
use Rattle.coap_print.specs.Values.{shown_hex}

-- an entity-tag; it has a byte at least (RFC 7252, section 5.10.6)
abbrev pub tag_text : Option (List ℕ) → List ℕ
tag_text None = codes "-"
tag_text (Some tag) = shown_hex tag

-- a Content-Format
abbrev pub format_text : Option ℕ → List ℕ
format_text None = codes "-"
format_text (Some format) = decimal format

module _ {A : Type 0} where
  -- the entity-tag, the format and the body of a representation
  abbrev pub fetched_text : Fetched A → List ℕ
  fetched_text f = tag_text f.tag ++ (codes " " ++ (format_text f.format ++ (codes " " ++ shown_hex f.body)))

  -- the name of a report, and what it tells
  abbrev pub report_text : R.Report A → List ℕ
  report_text (report.Body f) = codes "body " ++ fetched_text f
  report_text (report.Valid tag) = codes "valid " ++ tag_text tag
  report_text (report.Done code) = codes "done " ++ code_text code
  report_text (report.Value number f) = codes "value " ++ (decimal number ++ (codes " " ++ fetched_text f))
  report_text (report.Ended code) = codes "ended " ++ code_text code
  report_text report.Cancelled = codes "cancelled"
  report_text (report.Failed code) = codes "failed " ++ code_text code
  report_text report.Timeout = codes "timeout"
  report_text report.Reset = codes "reset"
  report_text report.NoResponse = codes "no-response"
  report_text report.Changed = codes "changed"
  report_text report.BadBlock = codes "bad-block"
  report_text report.NoTag = codes "no-tag"
  report_text report.TooLarge = codes "too-large"
  report_text report.NoIds = codes "no-ids"
