-- The turns of an observation: what is taken and written in each, and when it is given up (RFC 7641, section 3;
-- docs/PROGRAM.md).
use Rattle.std.specs.Prelude.{◌≡◌, ℕ, false, List, [], Option, Some, Result, Ok, Err}
use Rattle.coap_types.specs.declared.endpoint.Endpoint.{Endpoint}
use Rattle.coap_types.specs.declared.endpoint.Moment.{Moment}
use Rattle.coap_layer.specs.declared.setup.Setup.{Setup}
use Rattle.coap_block.specs.Sizes.{Sizes}
use Rattle.coap_client.specs.Led.{Led, State, Step}
use Rattle.coap_client.specs.Object.Shown.{shown_report}
use Rattle.coap_client.specs.Trace.{Report, is_value}
use Rattle.coap_client.specs.Trace.{Observes as observes}
use Rattle.coap_client.specs.declared.refusals.CallRefusal.{CallRefusal}
use Rattle.coap_arguments.specs.declared.orders.AskOptions.{AskOptions}
use Rattle.coap_waits.specs.JsonLines.{WritesEnd}
use Rattle.coap_asking.specs.Observes.{HasGivenUp, ObserveBecomes, WritesTaken, observed_status}
use Rattle.coap_wires.specs.Waiting.{HasPassed}
use Rattle.coap_asking.specs.Watches.{CancelsAtEnd, IsNoEnd, Takes, counted_with}
use Rattle.coap_waits.specs.declared.calling.Outcome.{Outcome}
use Rattle.coap_waits.specs.declared.calling.Outcome.TheVariants as outcome
use Rattle.coap_status.specs.declared.status.Status.{Status}

-- Turns of an observation that began at this moment, after each of which it goes on: it is not given up, and cancelled
-- exactly where it is over. At the end so many values were taken, and what was taken is written behind what a writer
-- had at the start.
pub data Continues (options : AskOptions) (begin number : ℕ) (s : State) (start : Option (List ℕ))
    : ℕ → State → Option (List ℕ) → Type 0 where
  at_first : Continues options begin number s start 0 s start
  on : (values : ℕ) (m : State) (held : Option (List ℕ)) (now : Moment) (took : Option Report) (n : State) (more : ℕ)
      (o : State) (new : Option (List ℕ)) → Continues options begin number s start values m held
      → Takes number now.0 took m n → IsNoEnd took → more ≡ counted_with values took
      → WritesTaken options begin values now held new took → (HasGivenUp options begin more now.0 → ⊥)
      → CancelsAtEnd options begin number now.0 more n o → Continues options begin number s start more o new

-- such turns, and a last one at this moment, in which this is taken and written
abbrev pub LastTurn : AskOptions → (begin number : ℕ) → State → Option (List ℕ) → (values : ℕ) → Moment
    → Option Report → Option (List ℕ) → Type 0
LastTurn options begin number s start values now took new =
    (m : State) × (held : Option (List ℕ)) × Continues options begin number s start values m held
    × (n : State) × Takes number now.0 took m n × WritesTaken options begin values now held new took

-- The observation ends so: with its last report; or it is given up in the first turn after as many seconds as may pass
-- without a value.
abbrev pub IsObserved : AskOptions → (begin number : ℕ) → State → Option (List ℕ) → Outcome → Option (List ℕ) → Type 0
IsObserved options begin number s start (outcome.Refused why) new = ⊥
IsObserved options begin number s start (outcome.Reported report) new =
    (is_value (shown_report report) ≡ false) × (values : ℕ) × (now : Moment)
    × LastTurn options begin number s start values now (Some (shown_report report)) new
IsObserved options begin number s start (outcome.GaveUp seconds) new =
    (options.give_up ≡ Some seconds) × (values : ℕ) × (now : Moment) × HasPassed seconds begin now.0
    × (took : Option Report) × IsNoEnd took × (counted_with values took ≡ 0)
    × LastTurn options begin number s start values now took new

-- by what the client answered
abbrev pub IsObservedBy : AskOptions → ℕ → Result ℕ CallRefusal → State → Option (List ℕ) → Outcome
    → Option (List ℕ) → Type 0
IsObservedBy options begin (Err why) s start ended new = (ended ≡ outcome.Refused why) × (new ≡ start)
IsObservedBy options begin (Ok number) s start ended new = IsObserved options begin number s start ended new

-- a client in this state is called to observe the path
abbrev pub ObservesFrom : State → List (List ℕ) → AskOptions → Option (List ℕ) → Outcome → Option (List ℕ) → Type 0
ObservesFrom fresh path options start ended new =
    (begin : ℕ) × (answer : Result ℕ CallRefusal) × (s : State) × Step fresh (observes begin path answer) s
    × IsObservedBy options begin answer s start ended new

-- A client of this server, which began with this setup and these sizes, observes the path; the status is that of what
-- becomes of it; and its values, and how it ended, are written behind what a writer has.
abbrev pub Observes : (old new : Option (List ℕ)) → Endpoint → (sizes : Sizes) → Setup → List (List ℕ) → AskOptions
    → Status → Type 0
Observes old new server sizes setup path options status =
    (ended : Outcome) × ObserveBecomes server sizes setup path options ended × (status ≡ observed_status ended)
    × (fresh : State) × Led server sizes setup [] fresh × (written : Option (List ℕ))
    × ObservesFrom fresh path options old ended written × WritesEnd options.json written new ended
