-- What becomes of a path that a client is called to GET again and again, one call after the other, and with which
-- status a program ends that does so (RFC 7252, sections 5.2 and 5.8.1).
use Rattle.std.specs.Prelude.{◌≡◌, ⊤, ℕ, Bool, true, false, Option, None, Some, List, [], ◌∷◌, ◌++◌, Ok, Err, Result}
use Rattle.std.specs.Prelude.{length}
use Rattle.std.specs.List.{Contains}
use Rattle.coap_types.specs.declared.endpoint.Endpoint.{Endpoint}
use Rattle.coap_layer.specs.declared.setup.Setup.{Setup}
use Rattle.coap_block.specs.Sizes.{Sizes}
use Rattle.coap_client.specs.Led.{Led, State}
use Rattle.coap_client.specs.Object.Shown.{shown_report}
use Rattle.coap_client.specs.Trace.{Call, Calls, Report, Request}
use Rattle.coap_client.specs.declared.client.report.CallId.{CallId}
use Rattle.coap_client.specs.declared.refusals.CallRefusal.{CallRefusal}
use Rattle.coap_arguments.specs.declared.orders.AskOptions.{AskOptions}
use Rattle.coap_waits.specs.Asks.{AsksNothing, Chain, Each, TurnsAt, TurnsInTime, got_status, takes_report}
use Rattle.coap_waits.specs.JsonLines.{WritesOutcome}
use Rattle.coap_asking.specs.Printed.{WritesReading}
use Rattle.coap_wires.specs.Waiting.{HasPassed}
use Rattle.coap_waits.specs.declared.calling.Outcome.{Outcome}
use Rattle.coap_waits.specs.declared.calling.Outcome.TheVariants as outcome
use Rattle.coap_status.specs.declared.status.Status.{Status}
use Rattle.coap_status.specs.declared.status.Status.TheVariants as status

-- A reading: when the client is called for it, and what it answers; its calls from then on until the next reading, the
-- newest first; and what becomes of it.
pub record Reading : Type 0 where
  pub now : ℕ
  pub answer : Result ℕ CallRefusal
  pub later : List Call
  pub outcome : Outcome

-- these calls are turns before as many seconds had passed since that moment as may pass, and then one at this moment
abbrev pub AreInTime : Option ℕ → (begin at : ℕ) → List Call → Type 0
AreInTime give_up begin at calls =
    (last : List Call) × (earlier : List Call) × (calls ≡ last ++ earlier) × Each (TurnsAt at) last
    × Each (TurnsInTime give_up begin) earlier

-- The client refused the call, at this moment; or took it under a number, and behind turns in time this was reported of
-- that; or it was given up in the first turn after as many seconds as may pass.
abbrev pub HasCome : Option ℕ → ℕ → Result ℕ CallRefusal → List Call → Outcome → Type 0
HasCome give_up begin answer later (outcome.Refused why) = answer ≡ Err why
HasCome give_up begin answer later (outcome.Reported report) =
    (number : ℕ) × (answer ≡ Ok number) × (behind : List Call) × (calls : List Call)
    × (later ≡ behind ++ takes_report number (shown_report report) ∷ calls)
    × (at : ℕ) × AreInTime give_up begin at calls
HasCome give_up begin answer later (outcome.GaveUp seconds) =
    (number : ℕ) × (answer ≡ Ok number) × (behind : List Call) × (calls : List Call) × (later ≡ behind ++ calls)
    × (give_up ≡ Some seconds) × (at : ℕ) × HasPassed seconds begin at × AreInTime give_up begin at calls

-- between its call and the next one the client is asked for nothing
abbrev pub IsReading : Option ℕ → Reading → Type 0
IsReading give_up r = Each AsksNothing r.later × HasCome give_up r.now r.answer r.later r.outcome

-- the client is through with the call: it refused it, or a report of its number was taken
abbrev pub IsThrough : Result ℕ CallRefusal → List Call → Type 0
IsThrough (Err why) later = ⊤
IsThrough (Ok number) later = (report : Report) × Contains later (takes_report number report)

-- a reading that begins at this moment, the last argument, comes once the client is through with the one before, and so
-- many seconds after that began
abbrev pub Follows : ℕ → List Reading → ℕ → Type 0
Follows every [] now = ⊤
Follows every (before ∷ earlier) now =
    IsThrough before.answer before.later × HasPassed every before.now now

-- readings, the newest first, each of which follows the one before
abbrev pub AreReadings : Option ℕ → ℕ → List Reading → Type 0
AreReadings give_up every [] = ⊤
AreReadings give_up every (r ∷ earlier) =
    IsReading give_up r × Follows every earlier r.now × AreReadings give_up every earlier

-- all calls of the client, the newest first: each reading is a call for the request
abbrev pub calls_of : Request → List Reading → List Call
calls_of request [] = []
calls_of request (r ∷ earlier) = r.later ++ Calls r.now request r.answer ∷ calls_of request earlier

-- the status of the last reading; with none there is nothing that failed
abbrev pub read_status : List Reading → Status
read_status [] = status.Done
read_status (r ∷ earlier) = got_status r.outcome

-- .. and of each is written, behind the one before, what became of it: as an object of JSON, or its body on a line
abbrev pub WritesAs : Bool → Bool → (old new : Option (List ℕ)) → Outcome → Type 0
WritesAs true hex old new came = WritesOutcome true old new came
WritesAs false hex old new came = WritesReading hex old new came

abbrev pub AreWritten : AskOptions → List Reading → (old new : Option (List ℕ)) → Type 0
AreWritten options [] old new = new ≡ old
AreWritten options (r ∷ earlier) old new =
    (between : Option (List ℕ)) × AreWritten options earlier old between
    × WritesAs options.json options.hex between new r.outcome

-- A client of this server began with this setup and these sizes. All that it was called for is this request, as many
-- times as the options say, each so many seconds after the one before or later; the status is that of the last;
-- and each is written.
abbrev pub Polls : (old new : Option (List ℕ)) → Endpoint → (sizes : Sizes) → Setup → Request → ℕ → AskOptions → Status
    → Type 0
Polls old new server sizes setup request every options status =
    (readings : List Reading) × AreReadings options.give_up every readings × (options.times ≡ Some (length readings))
    × (status ≡ read_status readings)
    × (s : State) × Led server sizes setup (calls_of request readings) s
    × AreWritten options readings old new

-- ---- a step of it

-- calls that ask a client for nothing, and of which this holds, lead from one state to the other
abbrev pub Goes : (List Call → Type 0) → State → State → Type 0
Goes like old new = (calls : List Call) × Each AsksNothing calls × like calls × Chain old calls new

-- the call that the client is not through with: that of a reading that is given up
abbrev pub pending_after : Outcome → CallId → Option CallId
pending_after (outcome.Refused why) id = None
pending_after (outcome.Reported report) id = None
pending_after (outcome.GaveUp seconds) id = Some id

-- where one is, a report of it is taken among these calls
abbrev pub Closes : Option CallId → List Call → Type 0
Closes None calls = ⊤
Closes (Some id) calls = (report : Report) × Contains calls (takes_report id.0 report)

-- after these calls it is the one that it was, or none is
abbrev pub IsLeft : Option CallId → Option CallId → List Call → Type 0
IsLeft pending None calls = Closes pending calls
IsLeft pending (Some id) calls = pending ≡ Some id

-- once such calls have closed this one, the client is through with the reading
abbrev pub IsPending : Option CallId → Result ℕ CallRefusal → List Call → Type 0
IsPending None answer later = IsThrough answer later
IsPending (Some id) answer later = answer ≡ Ok id.0

-- a reading that began at this moment, and became this, leads from one state to the other, and leaves this call pending
abbrev pub Reads : Option ℕ → Request → ℕ → Outcome → Option CallId → State → State → Type 0
Reads give_up request now came pending old new =
    (r : Reading) × (r.now ≡ now) × (r.outcome ≡ came) × IsReading give_up r × IsPending pending r.answer r.later
    × Chain old (calls_of request (r ∷ [])) new

-- readings, of which each follows the one before, lead from one state to the other
abbrev pub HasRead : Option ℕ → ℕ → Request → List Reading → State → State → Type 0
HasRead give_up every request readings old new =
    AreReadings give_up every readings × Chain old (calls_of request readings) new

-- so many did, and are written, and the next may begin at this moment
abbrev pub IsNext : AskOptions → ℕ → Request → ℕ → ℕ → State → State → (before after : Option (List ℕ)) → Type 0
IsNext options every request count now old new before after =
    (readings : List Reading) × (length readings ≡ count) × Follows every readings now
    × HasRead options.give_up every request readings old new × AreWritten options readings before after
