-- What is told of a client's report (RFC 7252, section 5.3; RFC 7641, section 3), and where it is taken from.
use Rattle.std.specs.Prelude.{◌≡◌, ◌<◌, ℕ, ℤ, pos, List, [], length, take, Option, Some, None, unwrap_or}
use Rattle.std.specs.Option.{option_map}
use Rattle.coap_types.specs.declared.endpoint.Endpoint.{Endpoint}
use Rattle.coap_block.specs.Sizes.{Sizes}
use Rattle.coap_layer.specs.declared.setup.Setup.{Setup}
use Rattle.coap_client.specs.Object.Shown.{shown_reported}
use Rattle.coap_client.specs.Trace.{Call, NextReport, Report, Reported, Body, Valid, Done, Value, Ended, Cancelled}
use Rattle.coap_client.specs.Trace.{Failed, Timeout, Reset, NoResponse, Changed, BadBlock, NoTag, TooLarge, NoIds}
use Rattle.knifesilver.specs.declared.client.reports.KsReport.{KsReport}
use Rattle.knifesilver.specs.declared.held.Held.{Held}
use Rattle.knifesilver.specs.declared.held.Held.TheVariants.{Server, Client, Names}
use Rattle.knifesilver.specs.ClientHeld.{HoldsLed, Made}
use Rattle.knifesilver.specs.Formats.{number_of}
use Rattle.knifesilver.specs.ShortBytes.{AreIn}

-- the number of a report
abbrev pub kind_of : Report → ℕ
kind_of (Body tag format body) = 1
kind_of (Valid tag) = 2
kind_of (Done code) = 3
kind_of (Value sequence tag format body) = 4
kind_of (Ended code) = 5
kind_of Cancelled = 6
kind_of (Failed code) = 7
kind_of Timeout = 8
kind_of Reset = 9
kind_of NoResponse = 10
kind_of Changed = 11
kind_of BadBlock = 12
kind_of NoTag = 13
kind_of TooLarge = 14
kind_of NoIds = 15

-- the code of a response, where it has one (RFC 7252, section 5.9)
abbrev pub code_in : Report → ℕ
code_in (Done code) = code
code_in (Ended code) = code
code_in (Failed code) = code
code_in report = 0

-- the sequence number of a notification (RFC 7641, section 3.4)
abbrev pub sequence_in : Report → ℕ
sequence_in (Value sequence tag format body) = sequence
sequence_in report = 0

-- the entity-tag (RFC 7252, section 5.10.6), of no bytes where it has none
abbrev pub tag_in : Report → List ℕ
tag_in (Body tag format body) = unwrap_or tag []
tag_in (Valid tag) = unwrap_or tag []
tag_in (Value sequence tag format body) = unwrap_or tag []
tag_in report = []

-- the Content-Format (RFC 7252, section 5.10.3)
abbrev pub format_in : Report → Option ℕ
format_in (Body tag format body) = format
format_in (Value sequence tag format body) = format
format_in report = None

-- the body, which is empty where it has none
abbrev pub body_in : Report → List ℕ
body_in (Body tag format body) = body
body_in (Value sequence tag format body) = body
body_in report = []

-- of which call, and what is reported, but for the bytes of the body
abbrev pub IsTold : KsReport → Reported → Type 0
IsTold told it = (told.id ≡ it.number) × (told.kind ≡ kind_of it.report) × (told.code ≡ code_in it.report)
    × (told.sequence ≡ sequence_in it.report) × (told.format ≡ number_of (format_in it.report))
    × AreIn (tag_in it.report) told.tag told.tag_len × (told.body_len ≡ length (body_in it.report))

-- there is none, and the answer is 0; or the answer is 1, and it is told, with its body at the front of the room
abbrev pub ReportAnswers : ℤ → KsReport → (room : List ℕ) → Option Reported → Type 0
ReportAnswers answer told room None = answer ≡ pos 0
ReportAnswers answer told room (Some it) =
    (answer ≡ pos 1) × IsTold told it × (take (length (body_in it.report)) room ≡ body_in it.report)

-- it is told, and its body is longer than the room
abbrev pub IsLong : KsReport → (room : ℕ) → Reported → Type 0
IsLong told room it = IsTold told it × (room < length (body_in it.report))

-- the report that waits beside the client, where the room was too small for it
abbrev pub beside : Option Held → Option Reported
beside None = None
beside (Some (Server s)) = None
beside (Some (Client c)) = option_map shown_reported c.report
beside (Some (Names t)) = None

-- no call was made of the client that was held
abbrev pub Unmoved : Option Held → Option Held → Type 0
Unmoved old new = (server : Endpoint) (sizes : Sizes) (setup : Setup) (t : List Call) → HoldsLed server sizes setup t old
    → HoldsLed server sizes setup t new

-- a report is taken: that which waits beside the client, and the client isn't called; or else the client's next one
abbrev pub TakenFrom : (waits next : Option Reported) → Option Held → Option Held → Type 0
TakenFrom (Some it) next old new = (next ≡ Some it) × Unmoved old new
TakenFrom None next old new = Made (λ call. call ≡ NextReport next) old new

abbrev pub Taken : (next : Option Reported) → Option Held → Option Held → Type 0
Taken next old new = TakenFrom (beside old) next old new
