-- What is drawn in a row of a chart: the client's line is on the left, the server's on the right.
use Rattle.std.specs.Prelude.{Bool, List, codes, Option, Some, None, if◌then◌else◌}
use Rattle.coap_types.specs.SameEndpoint.{same_endpoint}
use Rattle.coap_types.specs.declared.endpoint.Endpoint.{Endpoint}
use Rattle.coap_record.specs.declared.addresses.Addresses.{Addresses}
use Rattle.coap_run.specs.declared.running.event.Side.{Side}
use Rattle.coap_run.specs.declared.running.event.Side.TheVariants.{Client, Server}
use Rattle.coap_scripts.specs.declared.chart.sheet.Form.{Form}
use Rattle.coap_scripts.specs.declared.chart.sheet.Form.TheVariants.{Arrives, FromElsewhere, Lost, Note, Sent}
use Rattle.coap_scripts.specs.declared.chart.sheet.Form.TheVariants.{ToElsewhere}
use Rattle.std.specs.Prelude.{ℕ}
use Rattle.coap_print.specs.declared.colours.Colour.{Colour}
use Rattle.coap_print.specs.declared.colours.Colour.TheVariants.{Cyan, Green, Usual}
use Rattle.coap_print.specs.declared.printing.Ink.{Ink}
use Rattle.coap_print.specs.declared.printing.Ink.TheVariants.{Coloured, Plain}

-- what stands before the words: an arrow's head points to the left where the datagram goes to the client
abbrev pub stroke_before : Side → Form → List ℕ
stroke_before side Note = codes " "
stroke_before side FromElsewhere = codes " "
stroke_before side ToElsewhere = codes " "
stroke_before Client Sent = codes "--- "
stroke_before Server Sent = codes "<--- "
stroke_before Client Arrives = codes "<--- "
stroke_before Server Arrives = codes "--- "
stroke_before Client Lost = codes "--- "
stroke_before Server Lost = codes "x--- "

-- .. and behind them: it points to the right where the datagram goes to the server
abbrev pub stroke_behind : Side → Form → List ℕ
stroke_behind side Note = codes " "
stroke_behind side FromElsewhere = codes " "
stroke_behind side ToElsewhere = codes " "
stroke_behind Client Sent = codes " --->"
stroke_behind Server Sent = codes " ---"
stroke_behind Client Arrives = codes " ---"
stroke_behind Server Arrives = codes " --->"
stroke_behind Client Lost = codes " ---x"
stroke_behind Server Lost = codes " ---"

-- what crosses the line of an end, on its outer side
abbrev pub crossing : Side → Form → List ℕ
crossing Client FromElsewhere = codes "-->"
crossing Server ToElsewhere = codes "-->"
crossing Server FromElsewhere = codes "<--"
crossing Client ToElsewhere = codes "<--"
crossing side form = codes ""

-- the end that has this address
abbrev pub side_at : Addresses → Endpoint → Option Side
side_at addresses endpoint =
    if same_endpoint endpoint addresses.client then Some Client
    else if same_endpoint endpoint addresses.server then Some Server
    else None

-- how a datagram is drawn that an end gives out: for elsewhere, or for the other end, where it may be lost
abbrev pub form_of : Bool → Bool → Form
form_of elsewhere lost = if elsewhere then ToElsewhere else if lost then Lost else Sent

-- the colour of a row of a chart: cyan where a datagram goes, green where one comes
abbrev pub row_colour : Ink → Form → Colour
row_colour Plain form = Usual
row_colour Coloured Note = Usual
row_colour Coloured Sent = Cyan
row_colour Coloured Lost = Cyan
row_colour Coloured ToElsewhere = Cyan
row_colour Coloured Arrives = Green
row_colour Coloured FromElsewhere = Green
