-- What a pair says in words (docs/PROGRAM.md).
use Rattle.std.specs.Prelude.{ℕ, List, Option, codes, decimal, length}
use Rattle.std.specs.Prelude.{◌++◌}
use Rattle.std.specs.declared.alloc.Global.{Global}
use Rattle.std.specs.Io.KnownBytes.{Appends}
use Rattle.coap_types.specs.Text.{code_text}
use Rattle.coap_client.specs.declared.client.report.Report as R
use Rattle.coap_client.specs.declared.client.report.Report.TheVariants as report
use Rattle.coap_waits.specs.declared.calling.Outcome.{Outcome}
use Rattle.coap_waits.specs.declared.calling.Outcome.TheVariants.{Reported}
use Rattle.coap_waits.specs.Printed.{outcome_text}

-- what became of a request is written behind a name
abbrev pub WritesNamed : List ℕ → (old new : Option (List ℕ)) → Outcome → Type 0
WritesNamed name old new outcome = Appends old new (name ++ (codes " " ++ (outcome_text outcome ++ codes "\n")))

-- so of a PUT of a pair; where it succeeded the code is
abbrev pub WritesChanged : (old new : Option (List ℕ)) → R.Report Global → Type 0
WritesChanged old new (report.Done code) = Appends old new (codes "put " ++ (code_text code ++ codes "\n"))
WritesChanged old new other = WritesNamed (codes "put") old new (Reported other)

abbrev pub WritesPut : (old new : Option (List ℕ)) → Outcome → Type 0
WritesPut old new (Reported report) = WritesChanged old new report
WritesPut old new other = WritesNamed (codes "put") old new other

-- .. and of its GET; of a body its length is
abbrev pub WritesFetched : (old new : Option (List ℕ)) → R.Report Global → Type 0
WritesFetched old new (report.Body fetched) =
    Appends old new (codes "get 2.05 " ++ (decimal (length fetched.body) ++ codes "\n"))
WritesFetched old new other = WritesNamed (codes "get") old new (Reported other)

abbrev pub WritesGet : (old new : Option (List ℕ)) → Outcome → Type 0
WritesGet old new (Reported report) = WritesFetched old new report
WritesGet old new other = WritesNamed (codes "get") old new other
