-- What becomes of a request that a client is handed, and with which status a program ends that asks it (RFC 7252,
-- section 5.2).
use Rattle.std.specs.Prelude.{◌≡◌, ◌-◌, ⊤, ℕ, Option, List, [], ◌∷◌, ◌++◌, Some, Ok, Err}
use Rattle.std.specs.declared.alloc.Global.{Global}
use Rattle.coap_types.specs.declared.endpoint.Endpoint.{Endpoint}
use Rattle.coap_types.specs.declared.request.Method.{Method}
use Rattle.coap_types.specs.declared.request.Method.TheVariants.{Get, Post, Put, Delete}
use Rattle.coap_layer.specs.declared.setup.Setup.{Setup}
use Rattle.coap_block.specs.Sizes.{Sizes}
use Rattle.coap_client.specs.Led.{Led, State, Step}
use Rattle.coap_client.specs.Object.Shown.{shown_report}
use Rattle.coap_client.specs.Trace.{Call, Calls, Feeds, NextOut, NextReport, Report, Request, Ticks}
use Rattle.coap_client.specs.declared.client.report.Report as R
use Rattle.coap_client.specs.declared.client.report.Report.TheVariants as report
use Rattle.coap_wires.specs.Waiting.{HasLasted, HasPassed}
use Rattle.coap_waits.specs.declared.calling.Outcome.{Outcome}
use Rattle.coap_waits.specs.declared.calling.Outcome.TheVariants.{GaveUp, Refused, Reported}
use Rattle.coap_status.specs.declared.status.Status.{Status}
use Rattle.coap_status.specs.declared.status.Status.TheVariants as status

-- the call asks the client for nothing: a datagram is fed, time passes, or what is out or reported is taken
abbrev pub AsksNothing : Call → Type 0
AsksNothing (Feeds now from bytes word up settled event sent token kept) = ⊤
AsksNothing (Ticks now word below turn sent token kept answer) = ⊤
AsksNothing (NextOut answer) = ⊤
AsksNothing (NextReport answer) = ⊤
AsksNothing call = ⊥

abbrev pub Each : (Call → Type 0) → List Call → Type 0
Each like [] = ⊤
Each like (c ∷ earlier) = like c × Each like earlier

-- these calls, the newest first, lead from one state to the other
abbrev pub Chain : State → List Call → State → Type 0
Chain old [] new = new ≡ old
Chain old (c ∷ earlier) new = (between : State) × Chain old earlier between × Step between c new

-- such calls alone lead from one state to the other
abbrev pub Turned : (Call → Type 0) → State → State → Type 0
Turned like old new = (calls : List Call) × Each like calls × Chain old calls new

-- the report of this number is taken
abbrev pub takes_report : ℕ → Report → Call
takes_report number report = NextReport (Some (record { number = number; report = report }))

-- a call that asks the client for nothing, in a turn at this moment
abbrev pub TurnsAt : ℕ → Call → Type 0
TurnsAt now (Feeds n from bytes word up settled event sent token kept) = n ≡ now
TurnsAt now (Ticks n word below turn sent token kept answer) = n ≡ now
TurnsAt now (NextOut answer) = ⊤
TurnsAt now (NextReport answer) = ⊤
TurnsAt now call = ⊥

-- .. in a turn before as many seconds had passed since this moment as may pass
abbrev pub TurnsInTime : Option ℕ → ℕ → Call → Type 0
TurnsInTime give_up begin (Feeds n from bytes word up settled event sent token kept) =
    HasLasted give_up (n - begin) → ⊥
TurnsInTime give_up begin (Ticks n word below turn sent token kept answer) = HasLasted give_up (n - begin) → ⊥
TurnsInTime give_up begin (NextOut answer) = ⊤
TurnsInTime give_up begin (NextReport answer) = ⊤
TurnsInTime give_up begin call = ⊥

-- Turns in time, and then one more, lead to this: a report of this number, which is taken; or that is given up, as many
-- seconds after this moment as may pass.
abbrev pub Comes : Option ℕ → ℕ → State → ℕ → Outcome → Type 0
Comes give_up begin old number (Refused why) = ⊥
Comes give_up begin old number (Reported report) =
    (waited : State) × Turned (TurnsInTime give_up begin) old waited
    × (now : ℕ) × (turned : State) × Turned (TurnsAt now) waited turned
    × (taken : State) × Step turned (takes_report number (shown_report report)) taken
Comes give_up begin old number (GaveUp seconds) =
    (give_up ≡ Some seconds) × (waited : State) × Turned (TurnsInTime give_up begin) old waited
    × (now : ℕ) × HasPassed seconds begin now × (turned : State) × Turned (TurnsAt now) waited turned

-- A client of this server began with this setup and these sizes. It was handed the request, and nothing else: it
-- refused it; or it took it under a number, and then this was reported of that number; or nothing was, and it was given
-- up in the first turn after as many seconds as may pass.
abbrev pub Becomes : Endpoint → (sizes : Sizes) → Setup → Option ℕ → Request → Outcome → Type 0
Becomes server sizes setup give_up request (Refused why) =
    (now : ℕ) × (s : State) × Led server sizes setup (Calls now request (Err why) ∷ []) s
Becomes server sizes setup give_up request (Reported report) =
    (now number at : ℕ) × (last earlier : List Call) × (s : State)
    × Each (TurnsAt at) last × Each (TurnsInTime give_up now) earlier
    × Led server sizes setup
    (takes_report number (shown_report report) ∷ (last ++ (earlier ++ (Calls now request (Ok number) ∷ [])))) s
Becomes server sizes setup give_up request (GaveUp seconds) =
    (give_up ≡ Some seconds) × (now number at : ℕ) × HasPassed seconds now at × (last earlier : List Call) × (s : State)
    × Each (TurnsAt at) last × Each (TurnsInTime give_up now) earlier
    × Led server sizes setup (last ++ (earlier ++ (Calls now request (Ok number) ∷ []))) s

-- done is a GET of which a body is reported
abbrev pub got_report : R.Report Global → Status
got_report (report.Body fetched) = status.Done
got_report other = status.Refused

abbrev pub got_status : Outcome → Status
got_status (Refused why) = status.Refused
got_status (Reported report) = got_report report
got_status (GaveUp seconds) = status.Refused

-- done is a change of which success is reported
abbrev pub changed_report : R.Report Global → Status
changed_report (report.Done code) = status.Done
changed_report other = status.Refused

abbrev pub changed_status : Outcome → Status
changed_status (Refused why) = status.Refused
changed_status (Reported report) = changed_report report
changed_status (GaveUp seconds) = status.Refused

abbrev pub status_after : Method → Outcome → Status
status_after Get outcome = got_status outcome
status_after Post outcome = changed_status outcome
status_after Put outcome = changed_status outcome
status_after Delete outcome = changed_status outcome
