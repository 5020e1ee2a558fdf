-- A report in words, with the length of a body in place of its bytes.
use Rattle.std.specs.Prelude.{ℕ, List, [], ◌++◌, codes, decimal, length, Option, Some, None}
use Rattle.hex.specs.Hex.{encode_lower}
use Rattle.coap_types.specs.Text.{code_text}
use Rattle.coap_types.specs.declared.message.Code.{Code}
use Rattle.coap_client.specs.declared.client.report.Fetched.{Fetched}
use Rattle.coap_client.specs.declared.client.report.Report as R
use Rattle.coap_client.specs.declared.client.report.Report.TheVariants as report
use Rattle.coap_print.specs.Datagrams.{name_text}

-- an entity-tag in hex, where there is one
abbrev pub tag_words : Option (List ℕ) → List ℕ
tag_words None = []
tag_words (Some tag) = codes ", ETag " ++ encode_lower tag

-- a Content-Format, where there is one
abbrev pub format_words : Option ℕ → List ℕ
format_words None = []
format_words (Some format) = codes ", Content-Format " ++ decimal format

-- what came, with a code: its number, and its name where it has one
abbrev pub code_words : List ℕ → Code → List ℕ
code_words what code = what ++ (codes " " ++ (code_text code ++ name_text code.0))

module _ {A : Type 0} where
  -- the entity-tag and the format of a representation, and how long it is
  abbrev pub fetched_words : Fetched A → List ℕ
  fetched_words f =
      tag_words f.tag ++ (format_words f.format ++ (codes ", " ++ (decimal (length f.body) ++ codes " B")))

  -- the name of a report, and what it tells
  abbrev pub report_words : R.Report A → List ℕ
  report_words (report.Body f) = codes "body" ++ fetched_words f
  report_words (report.Valid tag) = codes "valid" ++ tag_words tag
  report_words (report.Done code) = code_words (codes "done") code
  report_words (report.Value number f) = codes "value " ++ (decimal number ++ fetched_words f)
  report_words (report.Ended code) = code_words (codes "ended") code
  report_words report.Cancelled = codes "cancelled"
  report_words (report.Failed code) = code_words (codes "failed") code
  report_words report.Timeout = codes "timeout"
  report_words report.Reset = codes "reset"
  report_words report.NoResponse = codes "no response"
  report_words report.Changed = codes "changed"
  report_words report.BadBlock = codes "bad block"
  report_words report.NoTag = codes "no entity-tag"
  report_words report.TooLarge = codes "too large"
  report_words report.NoIds = codes "no Message ID or token is free"
