-- What becomes of an observation that a client is handed, and with which status a program ends that observes (RFC 7641,
-- section 3).
use Rattle.std.specs.Prelude.{◌≡◌, ◌≤◌, ◌⊎◌, ◌↔◌, ⊤, ℕ, Bool, ◌+◌, true, false, List, [], ◌∷◌, ◌++◌, Option}
use Rattle.std.specs.Prelude.{None, Some, Ok, Err, if◌then◌else◌}
use Rattle.std.specs.declared.alloc.Global.{Global}
use Rattle.coap_types.specs.declared.endpoint.Endpoint.{Endpoint}
use Rattle.coap_types.specs.declared.endpoint.Moment.{Moment}
use Rattle.coap_layer.specs.declared.setup.Setup.{Setup}
use Rattle.coap_block.specs.Sizes.{Sizes}
use Rattle.coap_client.specs.Led.{Led, State, Step}
use Rattle.coap_client.specs.Object.Shown.{shown_report}
use Rattle.coap_client.specs.Trace.{Call, Cancels, Feeds, NextOut, NextReport, Report, Reported, Ticks, is_value}
use Rattle.coap_client.specs.Trace.{Observes as observes}
use Rattle.coap_client.specs.declared.client.report.Report as R
use Rattle.coap_client.specs.declared.client.report.Report.TheVariants as report
use Rattle.coap_arguments.specs.declared.orders.AskOptions.{AskOptions}
use Rattle.coap_waits.specs.Asks.{Chain, takes_report}
use Rattle.coap_asking.specs.JsonValues.{WritesValue, form_of}
use Rattle.coap_waits.specs.declared.calling.Outcome.{Outcome}
use Rattle.coap_waits.specs.declared.calling.Outcome.TheVariants as outcome
use Rattle.coap_status.specs.declared.status.Status.{Status}
use Rattle.coap_status.specs.declared.status.Status.TheVariants as status
use Rattle.coap_wires.specs.Waiting.{HasPassed}

-- so many values are as many as are wanted
abbrev pub HasAll : Option ℕ → ℕ → Type 0
HasAll None values = ⊥
HasAll (Some times) values = times ≤ values

-- at that moment, the second one, so many seconds have passed since this one
abbrev pub IsLate : Option ℕ → ℕ → ℕ → Type 0
IsLate None begin now = ⊥
IsLate (Some seconds) begin now = HasPassed seconds begin now

-- An observation that began at this moment is over, by the options, at that one: so many values of it were taken, or
-- its time has passed.
abbrev pub IsOver : AskOptions → ℕ → ℕ → ℕ → Type 0
IsOver options begin values now = HasAll options.times values ⊎ IsLate options.seconds begin now

-- no value was taken, and as many seconds have passed as may pass without one
abbrev pub HasGivenUp : AskOptions → (begin values now : ℕ) → Type 0
HasGivenUp options begin values now =
    (seconds : ℕ) × (options.give_up ≡ Some seconds) × (values ≡ 0) × HasPassed seconds begin now

-- the observation is over at this moment, after so many values, or it is not
abbrev pub Decides : AskOptions → (since values now : ℕ) → Bool → Type 0
Decides options since values now is_over = (is_over ≡ true) ↔ IsOver options since values now

-- what is taken in a turn at this moment, after so many values, is written as its form says: a value once, whole, where
-- the observation was not over by then, and else nothing
abbrev pub WritesTaken : AskOptions → (begin values : ℕ) → Moment → (old new : Option (List ℕ)) → Option Report
    → Type 0
WritesTaken options begin values now old new None = new ≡ old
WritesTaken options begin values now old new (Some report) =
    (is_over : Bool) × Decides options begin values now.0 is_over
    × WritesValue (form_of options now) is_over old new report

-- how many values are taken
abbrev pub value_of : Option Reported → ℕ
value_of None = 0
value_of (Some r) = if is_value r.report then 1 else 0

abbrev pub value_in : Call → ℕ
value_in (NextReport answer) = value_of answer
value_in call = 0

abbrev pub values_in : List Call → ℕ
values_in [] = 0
values_in (c ∷ earlier) = value_in c + values_in earlier

-- A call of a client that observes, after so many values: a datagram is fed, time passes, or what is out or reported is
-- taken; or the observation is cancelled, and is over (RFC 7641, section 3.6).
abbrev pub Observing : AskOptions → ℕ → ℕ → ℕ → Call → Type 0
Observing options begin number values (Feeds now from bytes word up settled event sent token kept) = ⊤
Observing options begin number values (Ticks now word below turn sent token kept answer) = ⊤
Observing options begin number values (NextOut answer) = ⊤
Observing options begin number values (NextReport answer) = ⊤
Observing options begin number values (Cancels now of answer) = (of ≡ number) × IsOver options begin values now
Observing options begin number values call = ⊥

-- each of these calls, the newest first
abbrev pub AllObserving : AskOptions → ℕ → ℕ → List Call → Type 0
AllObserving options begin number [] = ⊤
AllObserving options begin number (c ∷ earlier) =
    Observing options begin number (values_in earlier) c × AllObserving options begin number earlier

-- such calls lead from one state to the other, and at least so many values are taken
abbrev pub Observed : AskOptions → ℕ → ℕ → State → ℕ → State → Type 0
Observed options begin number old values new =
    (calls : List Call) × AllObserving options begin number calls × (values ≤ values_in calls) × Chain old calls new

-- such calls lead to this: the last report of this number, which is taken; or that is given up, where so many seconds
-- may pass
abbrev pub ObserveComes : AskOptions → ℕ → ℕ → State → Outcome → Type 0
ObserveComes options begin number old (outcome.Refused why) = ⊥
ObserveComes options begin number old (outcome.Reported report) =
    (turned : State) × (values : ℕ) × (taken : State) × Observed options begin number old values turned
    × Step turned (takes_report number (shown_report report)) taken × (is_value (shown_report report) ≡ false)
ObserveComes options begin number old (outcome.GaveUp seconds) =
    (options.give_up ≡ Some seconds) × (values : ℕ) × (turned : State) × Observed options begin number old values turned

-- A client of this server began with this setup and these sizes. It was called to observe the path, and cancelled that
-- once it was over, and else was asked for nothing: it refused it; or it took it under a number, and then this was
-- reported last of that number; or it was given up, where so many seconds may pass.
abbrev pub ObserveBecomes : Endpoint → (sizes : Sizes) → Setup → List (List ℕ) → AskOptions → Outcome → Type 0
ObserveBecomes server sizes setup path options (outcome.Refused why) =
    (now : ℕ) × (s : State) × Led server sizes setup (observes now path (Err why) ∷ []) s
ObserveBecomes server sizes setup path options (outcome.Reported report) =
    (now : ℕ) × (number : ℕ) × (calls : List Call) × (s : State) × AllObserving options now number calls
    × (is_value (shown_report report) ≡ false)
    × Led server sizes setup (takes_report number (shown_report report) ∷ calls ++ observes now path (Ok number) ∷ []) s
ObserveBecomes server sizes setup path options (outcome.GaveUp seconds) =
    (options.give_up ≡ Some seconds) × (now : ℕ) × (number : ℕ) × (calls : List Call) × (s : State)
    × AllObserving options now number calls
    × Led server sizes setup (calls ++ observes now path (Ok number) ∷ []) s

-- done is an observation that is cancelled
abbrev pub observed_report : R.Report Global → Status
observed_report report.Cancelled = status.Done
observed_report other = status.Refused

abbrev pub observed_status : Outcome → Status
observed_status (outcome.Refused why) = status.Refused
observed_status (outcome.Reported report) = observed_report report
observed_status (outcome.GaveUp seconds) = status.Refused
