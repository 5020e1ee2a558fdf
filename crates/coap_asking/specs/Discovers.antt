-- What a server says that it has: a GET of /.well-known/core, and the links that its representation spells (RFC 6690,
-- sections 2 and 4).
use Rattle.std.specs.Prelude.{◌≡◌, ◌⊎◌, ◌++◌, ◌∷◌, [], ⊤, ℕ, Bool, true, false, List, Option, codes, decimal}
use Rattle.std.specs.Io.KnownBytes.{Appends}
use Rattle.std.specs.declared.alloc.Global.{Global}
use Rattle.coap_types.specs.declared.endpoint.Endpoint.{Endpoint}
use Rattle.coap_layer.specs.declared.setup.Setup.{Setup}
use Rattle.coap_block.specs.Sizes.{Sizes}
use Rattle.coap_client.specs.Trace.{Request}
use Rattle.coap_client.specs.declared.client.report.Report as R
use Rattle.coap_client.specs.declared.client.report.Report.TheVariants as report
use Rattle.coap_arguments.specs.PathText.{IsPathText}
use Rattle.coap_link_format.specs.BadPlaces.{IsBadAt}
use Rattle.coap_link_format.specs.LinkFormat.{Spells}
use Rattle.coap_waits.specs.Asks.{Becomes}
use Rattle.coap_json.specs.Objects.{WritesObject}
use Rattle.coap_waits.specs.JsonLines.{outcome_object}
use Rattle.coap_waits.specs.Printed.{WritesSaid}
use Rattle.coap_waits.specs.declared.calling.Outcome.{Outcome}
use Rattle.coap_waits.specs.declared.calling.Outcome.TheVariants as outcome
use Rattle.coap_status.specs.declared.status.Status.{Status}
use Rattle.coap_status.specs.declared.status.Status.TheVariants as status

-- the path of what a server has
abbrev pub IsCore : List (List ℕ) → Type 0
IsCore path = IsPathText (codes ".well-known/core") path

-- done is a text that spells links; one that is no link format is bad at its first place at which it can't go on so
abbrev pub ReadsLinks : List ℕ → Status → Type 0
ReadsLinks text s = ((s ≡ status.Done) × (links : List (List ℕ)) × Spells text links)
    ⊎ ((s ≡ status.Refused) × (n : ℕ) × IsBadAt n text)

-- links, each as it is on a line of its own, in their order
abbrev pub links_text : List (List ℕ) → List ℕ
links_text [] = []
links_text (link ∷ links) = (link ++ codes "\n") ++ links_text links

abbrev pub bad_links_text : ℕ → List ℕ
bad_links_text n = codes "bad links at " ++ (decimal n ++ codes "\n")

-- they are written behind what a writer has, or the first bad place of the text is
abbrev pub PrintsLinks : (old new : Option (List ℕ)) → List ℕ → Status → Type 0
PrintsLinks old new text status.Done = (links : List (List ℕ)) × Spells text links × Appends old new (links_text links)
PrintsLinks old new text status.Refused =
    (n : ℕ) × IsBadAt n text × Appends old new (bad_links_text n)
PrintsLinks old new text other = ⊥

-- the status, where this was reported: of a representation that of its links
abbrev pub Shows : R.Report Global → Status → Type 0
Shows (report.Body fetched) s = ReadsLinks fetched.body s
Shows other s = s ≡ status.Refused

abbrev pub IsShown : Outcome → Status → Type 0
IsShown (outcome.Refused why) s = s ≡ status.Refused
IsShown (outcome.Reported reported) s = Shows reported s
IsShown (outcome.GaveUp seconds) s = s ≡ status.Refused

-- the links of a representation are written, and of what else became of the request a line is, unless it was given up
abbrev pub WritesReport : (old new : Option (List ℕ)) → R.Report Global → Status → Type 0
WritesReport old new (report.Body fetched) s = PrintsLinks old new fetched.body s
WritesReport old new other s = WritesSaid old new (outcome.Reported other)

abbrev pub WritesShown : (old new : Option (List ℕ)) → Outcome → Status → Type 0
WritesShown old new (outcome.Reported reported) s = WritesReport old new reported s
WritesShown old new other s = WritesSaid old new other

-- in JSON, told at this moment, the object of what else became of it is written
abbrev pub WritesReportObject : ℕ → (old new : Option (List ℕ)) → R.Report Global → Type 0
WritesReportObject ms old new (report.Body fetched) = ⊤
WritesReportObject ms old new other = WritesObject old new (outcome_object ms (outcome.Reported other))

abbrev pub WritesTold : ℕ → (old new : Option (List ℕ)) → Outcome → Type 0
WritesTold ms old new (outcome.Reported reported) = WritesReportObject ms old new reported
WritesTold ms old new other = WritesObject old new (outcome_object ms other)

-- so what came is written, in JSON or in words
abbrev pub WritesFound : Bool → (old new : Option (List ℕ)) → Outcome → Status → Type 0
WritesFound true old new came s = (ms : ℕ) × WritesTold ms old new came
WritesFound false old new came s = WritesShown old new came s

-- a client is asked this, the status is that of the links that come of it, and this is written
abbrev pub Discovers : Bool → (old new : Option (List ℕ)) → Endpoint → (sizes : Sizes) → Setup → Option ℕ → Request
    → Status → Type 0
Discovers json old new server sizes setup give_up request s =
    (came : Outcome) × Becomes server sizes setup give_up request came × IsShown came s
    × WritesFound json old new came s
