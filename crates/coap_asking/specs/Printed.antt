-- What is printed in words of readings, of values and of pings (docs/PROGRAM.md).
use Rattle.std.specs.Prelude.{◌≡◌, ℕ, Bool, true, false, List, Option, Some, None, codes, decimal}
use Rattle.std.specs.Prelude.{◌++◌}
use Rattle.std.specs.declared.alloc.Global.{Global}
use Rattle.std.specs.Io.KnownBytes.{Appends}
use Rattle.coap_print.specs.Values.{shown_hex}
use Rattle.coap_client.specs.Trace.{Report, Value}
use Rattle.coap_client.specs.declared.client.report.Report as R
use Rattle.coap_client.specs.declared.client.report.Report.TheVariants as report
use Rattle.coap_waits.specs.declared.calling.Outcome.{Outcome}
use Rattle.coap_waits.specs.declared.calling.Outcome.TheVariants.{GaveUp, Refused, Reported}

-- the line of bytes: as they are, or in hex
abbrev pub line_of : Bool → List ℕ → List ℕ
line_of true bytes = shown_hex bytes ++ codes "\n"
line_of false bytes = bytes ++ codes "\n"

-- the body of a reading is written on a line
abbrev pub WritesRead : Bool → (old new : Option (List ℕ)) → R.Report Global → Type 0
WritesRead is_hex old new (report.Body fetched) = Appends old new (line_of is_hex fetched.body)
WritesRead is_hex old new other = new ≡ old

abbrev pub WritesReading : Bool → (old new : Option (List ℕ)) → Outcome → Type 0
WritesReading is_hex old new (Refused why) = new ≡ old
WritesReading is_hex old new (Reported report) = WritesRead is_hex old new report
WritesReading is_hex old new (GaveUp seconds) = new ≡ old

-- the body of a value
abbrev pub WritesBody : Bool → (old new : Option (List ℕ)) → Report → Type 0
WritesBody is_hex old new (Value sequence tag format body) = Appends old new (line_of is_hex body)
WritesBody is_hex old new other = new ≡ old

-- a value that comes before the observation is over is written on a line, and of no other report anything is
abbrev pub WritesLine : Bool → Bool → (old new : Option (List ℕ)) → Report → Type 0
WritesLine is_hex true old new report = new ≡ old
WritesLine is_hex false old new report = WritesBody is_hex old new report

-- how a ping ended: it was answered after so many milliseconds, or it was not
abbrev pub ping_text : Option ℕ → List ℕ
ping_text (Some ms) = codes "reset " ++ (decimal ms ++ codes " ms\n")
ping_text None = codes "timeout\n"
