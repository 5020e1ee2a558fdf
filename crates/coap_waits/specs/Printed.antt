-- What is printed in words: a body as it is, or on a line; what else became of a request; and what a server, a pair and
-- a ping say (docs/PROGRAM.md).
use Rattle.std.specs.Prelude.{◌≡◌, ℕ, List, Option, codes, decimal}
use Rattle.std.specs.Prelude.{◌++◌}
use Rattle.std.specs.declared.alloc.Global.{Global}
use Rattle.std.specs.Io.KnownBytes.{Appends}
use Rattle.coap_types.specs.declared.request.Method.{Method}
use Rattle.coap_types.specs.declared.request.Method.TheVariants.{Get, Post, Put, Delete}
use Rattle.coap_client.specs.RefusalNumbers.{call_refusal_number}
use Rattle.coap_scripts.specs.Reports.{report_text}
use Rattle.coap_client.specs.declared.client.report.Report as R
use Rattle.coap_client.specs.declared.client.report.Report.TheVariants as report
use Rattle.coap_waits.specs.declared.calling.Outcome.{Outcome}
use Rattle.coap_waits.specs.declared.calling.Outcome.TheVariants.{GaveUp, Refused, Reported}

-- what became of a request, in words
abbrev pub outcome_text : Outcome → List ℕ
outcome_text (Refused why) = codes "refused " ++ decimal (call_refusal_number why)
outcome_text (Reported report) = report_text report
outcome_text (GaveUp seconds) =
    codes "gave up after " ++ (decimal seconds ++ codes " s; the request may still be applied")

-- that is written on a line behind what a writer has, and nothing else; of one that is given up nothing is
abbrev pub WritesSaid : (old new : Option (List ℕ)) → Outcome → Type 0
WritesSaid old new (Refused why) = Appends old new (outcome_text (Refused why) ++ codes "\n")
WritesSaid old new (Reported report) = Appends old new (outcome_text (Reported report) ++ codes "\n")
WritesSaid old new (GaveUp seconds) = new ≡ old

-- the body that is got is written as it is
abbrev pub WritesReported : (old new : Option (List ℕ)) → R.Report Global → Type 0
WritesReported old new (report.Body fetched) = Appends old new fetched.body
WritesReported old new other = WritesSaid old new (Reported other)

abbrev pub WritesGot : (old new : Option (List ℕ)) → Outcome → Type 0
WritesGot old new (Reported report) = WritesReported old new report
WritesGot old new other = WritesSaid old new other

-- of a GET the body, and else what became of the request
abbrev pub WritesInWords : Method → (old new : Option (List ℕ)) → Outcome → Type 0
WritesInWords Get old new outcome = WritesGot old new outcome
WritesInWords Post old new outcome = WritesSaid old new outcome
WritesInWords Put old new outcome = WritesSaid old new outcome
WritesInWords Delete old new outcome = WritesSaid old new outcome
