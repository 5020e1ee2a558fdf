-- What becomes of a path that is observed, and observed anew where nothing comes for long or the server ended that
-- (RFC 7641, sections 3.3.1 and 3.6). Each registration is made by a client of its own, which asks for nothing else.
use Rattle.std.specs.Prelude.{◌≡◌, ⊤, ℕ, ◌+◌, ◌%◌, ◌^◌, Bool, true, false, List, [], Option, None, Some}
use Rattle.std.specs.Prelude.{Ok, Err}
use Rattle.std.specs.Prelude.{Result, ◌-◌, if◌then◌else◌, min}
use Rattle.std.specs.declared.alloc.Global.{Global}
use Rattle.coap_types.specs.declared.endpoint.Endpoint.{Endpoint}
use Rattle.coap_types.specs.declared.endpoint.Moment.{Moment}
use Rattle.coap_layer.specs.declared.setup.Setup.{Setup}
use Rattle.coap_block.specs.Sizes.{Sizes}
use Rattle.coap_client.specs.Led.{Led, State, Step}
use Rattle.coap_client.specs.Object.Shown.{shown_report}
use Rattle.coap_client.specs.Trace.{Cancels, Report, is_value}
use Rattle.coap_client.specs.Trace.{Observes as observes}
use Rattle.coap_client.specs.declared.client.report.Report as R
use Rattle.coap_client.specs.declared.client.report.Report.TheVariants as report
use Rattle.coap_client.specs.declared.refusals.CallRefusal.{CallRefusal}
use Rattle.coap_client.specs.declared.refusals.CancelRefusal.{CancelRefusal}
use Rattle.coap_arguments.specs.declared.orders.AskOptions.{AskOptions}
use Rattle.coap_waits.specs.Asks.{AsksNothing, Turned, TurnsAt, takes_report}
use Rattle.coap_waits.specs.JsonLines.{WritesEnd}
use Rattle.coap_asking.specs.Observes.{Decides, HasGivenUp, IsOver, WritesTaken}
use Rattle.coap_waits.specs.Terms.{asked_terms, setup_of, sizes_of}
use Rattle.coap_wires.specs.Waiting.{HasPassed}
use Rattle.coap_waits.specs.declared.calling.Outcome.{Outcome}
use Rattle.coap_waits.specs.declared.calling.Outcome.TheVariants as outcome
use Rattle.coap_asking.specs.declared.anew.Left.{Left}
use Rattle.coap_asking.specs.declared.anew.Left.TheVariants as left
use Rattle.coap_status.specs.declared.status.Status.{Status}
use Rattle.coap_status.specs.declared.status.Status.TheVariants as status

-- a client leaves an observation at this moment: it is cancelled (RFC 7641, section 3.6), and what that sends goes out
abbrev pub Leaves : ℕ → ℕ → State → State → Type 0
Leaves number now s t =
    (answer : Option CancelRefusal) × (m : State) × Step s (Cancels now number answer) m × Turned AsksNothing m t
    × (t.layer.layer.queue ≡ [])

-- what was taken is no last report: it is a value, or nothing was
abbrev pub IsNoEnd : Option Report → Type 0
IsNoEnd None = ⊤
IsNoEnd (Some r) = is_value r ≡ true

-- so many values are taken with it
abbrev pub taken : Option Report → ℕ
taken None = 0
taken (Some r) = if is_value r then 1 else 0

-- so many with it, up to the last number that there is
abbrev pub counted_with : ℕ → Option Report → ℕ
counted_with values None = values
counted_with values (Some r) = min (values + taken (Some r)) (2 ^ 64 - 1)

-- the moment since which no value came: this one where one came now
abbrev pub heard_at : ℕ → Option Report → ℕ → ℕ
heard_at now None heard = heard
heard_at now (Some r) heard = if is_value r then now else heard

-- a report of this number is taken; or there is none
abbrev pub TakesReport : ℕ → Option Report → State → State → Type 0
TakesReport number None s t = Turned AsksNothing s t
TakesReport number (Some r) s t = Step s (takes_report number r) t

-- a turn at this moment, and what is taken behind it
abbrev pub Takes : ℕ → ℕ → Option Report → State → State → Type 0
Takes number now took s t = (m : State) × Turned (TurnsAt now) s m × TakesReport number took m t

-- at this moment, after so many values of all registrations, the observation is cancelled exactly where it is over
abbrev pub CancelsAtEnd : AskOptions → (since number now values : ℕ) → State → State → Type 0
CancelsAtEnd options since number now values s t =
    (IsOver options since values now → (answer : Option CancelRefusal) × Step s (Cancels now number answer) t)
    × ((IsOver options since values now → ⊥) → t ≡ s)

-- no value came for so long, and the observation is not over
abbrev pub IsSilent : AskOptions → (again since values heard now : ℕ) → Type 0
IsSilent options again since values heard now = HasPassed again heard now × (IsOver options since values now → ⊥)

-- How an observation is left in such a turn: it goes on, where it is neither given up nor silent; it is silent, and the
-- client leaves it; or it is given up, as many seconds after the first registration as may pass without a value.
abbrev pub LeavesAt : AskOptions → (again since number values heard now : ℕ) → State → Option Left → State → Type 0
LeavesAt options again since number values heard now s None t =
    (HasGivenUp options since values now → ⊥) × (IsSilent options again since values heard now → ⊥)
    × CancelsAtEnd options since number now values s t
LeavesAt options again since number values heard now s (Some left.Silent) t =
    IsSilent options again since values heard now × Leaves number now s t
LeavesAt options again since number values heard now s (Some (left.Ended (outcome.GaveUp seconds))) t =
    (options.give_up ≡ Some seconds) × (values ≡ 0) × HasPassed seconds since now
LeavesAt options again since number values heard now s (Some (left.Ended other)) t = ⊥

-- Turns of an observation that was registered at this moment, after each of which it goes on. At the end so many values
-- were taken of all registrations, of which there were so many before, and the last of this one at that moment, or none
-- since it was registered; and what was taken is written behind what a writer had at the start.
pub data Goes (options : AskOptions) (again since number begin before : ℕ) (s : State) (start : Option (List ℕ))
    : ℕ → ℕ → State → Option (List ℕ) → Type 0 where
  registered : Goes options again since number begin before s start before begin s start
  further : (values heard : ℕ) (m : State) (held : Option (List ℕ)) (now : Moment) (took : Option Report) (n : State)
      (more last : ℕ) (o : State) (new : Option (List ℕ))
      → Goes options again since number begin before s start values heard m held → Takes number now.0 took m n
      → IsNoEnd took → more ≡ values + taken took → last ≡ heard_at now.0 took heard
      → WritesTaken options since values now held new took
      → LeavesAt options again since number more last now.0 n None o
      → Goes options again since number begin before s start more last o new

-- such turns, and a last one at this moment, in which no last report is taken
abbrev pub LastTurn : AskOptions → (again since number begin before : ℕ) → State → Option (List ℕ)
    → (values heard : ℕ) → Moment → State → Option (List ℕ) → Type 0
LastTurn options again since number begin before s start values heard now n new =
    (earlier last : ℕ) × (m : State) × (held : Option (List ℕ))
    × Goes options again since number begin before s start earlier last m held
    × (took : Option Report) × Takes number now.0 took m n × IsNoEnd took
    × (values ≡ earlier + taken took) × (heard ≡ heard_at now.0 took last)
    × WritesTaken options since earlier now held new took

-- It is left with its last report, or so; and so many values were taken then, and are written.
abbrev pub IsLeft : AskOptions → (again since number begin before : ℕ) → State → Option (List ℕ) → Left → ℕ
    → Option (List ℕ) → Type 0
IsLeft options again since number begin before s start (left.Ended (outcome.Reported r)) values new =
    (heard : ℕ) × (m : State) × (held : Option (List ℕ))
    × Goes options again since number begin before s start values heard m held
    × (now : Moment) × (n : State) × Takes number now.0 (Some (shown_report r)) m n
    × (is_value (shown_report r) ≡ false) × WritesTaken options since values now held new (Some (shown_report r))
IsLeft options again since number begin before s start ended values new =
    (heard : ℕ) × (now : Moment) × (n : State)
    × LastTurn options again since number begin before s start values heard now n new
    × (o : State) × LeavesAt options again since number values heard now.0 n (Some ended) o

-- by what the client answered
abbrev pub IsLeftBy : AskOptions → (again since begin before : ℕ) → Result ℕ CallRefusal → State → Option (List ℕ)
    → Left → ℕ → Option (List ℕ) → Type 0
IsLeftBy options again since begin before (Err why) s start ended values new =
    (ended ≡ left.Ended (outcome.Refused why)) × (values ≡ before) × (new ≡ start)
IsLeftBy options again since begin before (Ok number) s start ended values new =
    IsLeft options again since number begin before s start ended values new

-- A client of this server began with this setup and these sizes, and was called to observe the path at this moment.
abbrev pub IsRegistered : Endpoint → (sizes : Sizes) → Setup → List (List ℕ) → AskOptions
    → (again since begin before : ℕ) → Option (List ℕ) → Left → ℕ → Option (List ℕ) → Type 0
IsRegistered server sizes setup path options again since begin before start ended values new =
    (fresh : State) × Led server sizes setup [] fresh × (answer : Result ℕ CallRefusal) × (s : State)
    × Step fresh (observes begin path answer) s
    × IsLeftBy options again since begin before answer s start ended values new

-- the setup of the client after so many
abbrev pub setup_after : ℕ → ℕ → AskOptions → Setup
setup_after word n options = setup_of (asked_terms ((word + n) % 2 ^ 64) options)

-- With which status the program ends where a registration ended with this, and the observation is over or not: it is
-- cancelled, with 0; or it ends in another way, with 1. None: the path is observed anew, since the server ended it.
abbrev pub reported : R.Report Global → Bool → Option Status
reported report.Cancelled is_over = Some status.Done
reported other is_over = if is_over then Some status.Refused else None

abbrev pub verdict_of : Outcome → Bool → Option Status
verdict_of (outcome.Refused why) is_over = Some status.Refused
verdict_of (outcome.Reported r) is_over = reported r is_over
verdict_of (outcome.GaveUp seconds) is_over = Some status.Refused

-- .. or since no value came for so long
abbrev pub verdict : Left → Bool → Option Status
verdict left.Silent is_over = if is_over then Some status.Refused else None
verdict (left.Ended ended) is_over = verdict_of ended is_over

-- how the last registration was left is written in JSON, where that is wanted
abbrev pub WritesLast : Bool → (old new : Option (List ℕ)) → Left → Type 0
WritesLast json old new left.Silent = new ≡ old
WritesLast json old new (left.Ended ended) = WritesEnd json old new ended

-- .. where it is the last one, and else nothing is
abbrev pub WritesLeft : Bool → Option Status → (old new : Option (List ℕ)) → Left → Type 0
WritesLeft json None old new ended = new ≡ old
WritesLeft json (Some s) old new ended = WritesLast json old new ended

-- what follows a registration that began at this moment and is left so, after so many values: the end of the program,
-- or
-- another registration at that moment, so many seconds later
abbrev pub Follows : (again begin : ℕ) → Option Status → ℕ → Type 0
Follows again begin (Some s) next = ⊤
Follows again begin None next = HasPassed again begin next

abbrev pub IsFollowed : AskOptions → (again since begin : ℕ) → Left → ℕ → Option Status → (more next : ℕ)
    → (old new : Option (List ℕ)) → Type 0
IsFollowed options again since begin ended values verdicted more next old new =
    (now : ℕ) × (is_over : Bool) × Decides options since values now is_over × (verdicted ≡ verdict ended is_over)
    × (more ≡ values) × Follows again begin verdicted next × WritesLeft options.json verdicted old new ended

-- the registration after so many, at this moment, where so many values came before, at a server for which these
-- endpoints stand: how it is left, how many values came then, and what is written
abbrev pub IsRegisteredNext : (Endpoint → Type 0) → ℕ → List (List ℕ) → AskOptions
    → (again since n begin before : ℕ) → Option (List ℕ) → Left → ℕ → Option (List ℕ) → Type 0
IsRegisteredNext IsServer word path options again since n begin before old ended values new =
    (server : Endpoint) × IsServer server
    × IsRegistered server (sizes_of (asked_terms ((word + n) % 2 ^ 64) options))
    (setup_of (asked_terms ((word + n) % 2 ^ 64) options)) path options again since begin before old ended values new

module _ (IsServer : Endpoint → Type 0) (word : ℕ) (path : List (List ℕ)) (options : AskOptions) (again since : ℕ)
    (start : Option (List ℕ))
  where
    -- one after the other: so many are left, so many values came, the next one is made at this moment, and the writer
    -- has this
    pub data Again : ℕ → ℕ → ℕ → Option (List ℕ) → Type 0 where
      first : Again 0 0 since start
      anew : (n before begin : ℕ) (old : Option (List ℕ)) (ended : Left) (values : ℕ) (held : Option (List ℕ))
          (more next : ℕ) (new : Option (List ℕ)) → Again n before begin old
          → IsRegisteredNext IsServer word path options again since n begin before old ended values held
          → IsFollowed options again since begin ended values None more next held new
          → Again (n + 1) more next new

    abbrev pub Ends : Option (List ℕ) → Status → Type 0
    Ends new s =
        (n before begin : ℕ) × (old : Option (List ℕ)) × Again n before begin old × (ended : Left) × (values : ℕ)
        × (held : Option (List ℕ))
        × IsRegisteredNext IsServer word path options again since n begin before old ended values held
        × (more next : ℕ) × IsFollowed options again since begin ended values (Some s) more next held new

-- A path is observed at a server by clients of these options, the first at some moment, and each further one anew; the
-- values of all, and how the last one ended, are written behind what a writer has.
abbrev pub Watches : (old new : Option (List ℕ)) → (Endpoint → Type 0) → ℕ → List (List ℕ) → AskOptions → ℕ → Status
    → Type 0
Watches old new IsServer word path options again s = (since : ℕ) × Ends IsServer word path options again since old new s
