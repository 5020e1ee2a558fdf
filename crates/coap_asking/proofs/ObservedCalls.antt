-- What becomes of an observation, from the calls of its client to how it ends.
use Rattle.std.proofs.Common.{◌≡◌, ◌≤◌, ◌+◌, ◌++◌, ◌∷◌, [], ℕ, List, Option, Some, None, Result, Ok, Err, IfOk, OnOk}
use Rattle.std.proofs.Common.{Bool, true}
use Rattle.std.proofs.Common.{inl, inr, refl, subst, arith}
use Rattle.coap_types.specs.declared.endpoint.Endpoint.{Endpoint}
use Rattle.coap_types.specs.declared.endpoint.Moment.{Moment}
use Rattle.coap_layer.specs.declared.setup.Setup.{Setup}
use Rattle.coap_block.specs.Sizes.{Sizes}
use Rattle.coap_client.specs.Led.{Led, State, Step}
use Rattle.coap_client.specs.Object.Shown.{number_of, shown_report}
use Rattle.coap_client.specs.Trace.{Asked, Call, Calls, Cancels, Feeds, Forgets, NextOut, NextReport, Report, Ticks}
use Rattle.coap_client.specs.Trace.{is_value}
use Rattle.coap_client.specs.Trace.{Observes as observes}
use Rattle.coap_client.specs.declared.client.report.CallId.{CallId}
use Rattle.coap_client.specs.declared.refusals.CallRefusal.{CallRefusal}
use Rattle.coap_client.specs.declared.refusals.CancelRefusal.{CancelRefusal}
use Rattle.coap_client.proofs.Facts.EachCall.{led_client}
use Rattle.coap_arguments.specs.declared.orders.AskOptions.{AskOptions}
use Rattle.coap_waits.specs.Asks.{AsksNothing, Each, Turned, takes_report}
use Rattle.coap_asking.specs.Observes.{AllObserving, HasAll, IsOver, ObserveBecomes, ObserveComes, Observed}
use Rattle.coap_asking.specs.Observes.{Decides, Observing, WritesTaken, observed_status, value_in, values_in}
use Rattle.coap_waits.specs.JsonLines.{WritesEnd}
use Rattle.coap_asking.specs.JsonValues.{WritesTook, WritesValue, form_of}
use Rattle.coap_asking.specs.declared.observe.Form.{Form}
use Rattle.coap_asking.specs.ObservedTurns.{Observes, ObservesFrom}
use Rattle.coap_waits.specs.declared.calling.Outcome.{Outcome}
use Rattle.coap_waits.specs.declared.calling.Outcome.TheVariants.{GaveUp, Refused, Reported}
use Rattle.coap_status.specs.declared.status.Status.{Status}
use Rattle.coap_status.specs.declared.status.Stop.{Stop}
use Rattle.coap_waits.proofs.Facts.{chain_join, led_on}

-- ---- what is over stays over, as more values come

has_all_on : (times : Option ℕ) (a b : ℕ) → a ≤ b → HasAll times a → HasAll times b
has_all_on None a b le h = h
has_all_on (Some times) a b le h = omega (arith, le, h)

over_on : (options : AskOptions) (begin a b now : ℕ) → a ≤ b → IsOver options begin a now → IsOver options begin b now
over_on options begin a b now le h = elim h [
  | inl all ↦ inl (has_all_on options.times a b le all)
  | inr late ↦ inr late
]

-- ---- calls that are added

values_on : (calls earlier : List Call) → values_in earlier ≤ values_in (calls ++ earlier)
values_on [] earlier = omega arith
values_on (c ∷ calls) earlier = let h = values_on calls earlier in omega (arith, h)

counted : (number : ℕ) (report : Report) → is_value report ≡ true → value_in (takes_report number report) ≡ 1
counted number report is = rw is

module _ (options : AskOptions) (begin number : ℕ) where
  asks_nothing : (values : ℕ) (c : Call) → AsksNothing c → Observing options begin number values c
  asks_nothing values (Calls now request answer) h = absurd h
  asks_nothing values (observes now path answer) h = absurd h
  asks_nothing values (Cancels now of answer) h = absurd h
  asks_nothing values (Forgets of kept answer) h = absurd h
  asks_nothing values (Feeds now from bytes word up settled event sent token kept) h = tt
  asks_nothing values (Ticks now word below turn sent token kept answer) h = tt
  asks_nothing values (NextOut answer) h = tt
  asks_nothing values (NextReport answer) h = tt
  asks_nothing values (Asked answer) h = absurd h

  all_on : (calls earlier : List Call) → Each AsksNothing calls → AllObserving options begin number earlier
      → AllObserving options begin number (calls ++ earlier)
  all_on [] earlier h all = all
  all_on (c ∷ calls) earlier h all =
      (asks_nothing (values_in (calls ++ earlier)) c h.0, all_on calls earlier h.1 all)

  pub observed_here : (s : State) → Observed options begin number s 0 s
  observed_here s = ([], tt, omega arith, refl)

  -- a turn
  pub observed_on : (values : ℕ) (old mid new : State) → Observed options begin number old values mid
      → Turned AsksNothing mid new → Observed options begin number old values new
  observed_on values old mid new a b =
      let more = values_on b.0 a.0 in
      let few = a.2 in (
        b.0 ++ a.0,
        all_on b.0 a.0 b.1 a.1,
        omega (arith, more, few),
        chain_join old mid new b.0 a.0 a.3 b.2,
      )

  -- a value is taken
  pub observed_value : (values more : ℕ) (report : Report) (old mid new : State)
      → Observed options begin number old values mid
      → Step mid (takes_report number report) new → is_value report ≡ true → more ≤ values + 1
      → Observed options begin number old more new
  observed_value values more report old mid new a step is le =
      let few = a.2 in
      let one = counted number report is in (
        takes_report number report ∷ a.0,
        (tt, a.1),
        omega (arith, few, one, le),
        (mid, a.3, step),
      )

  -- it is cancelled
  pub observed_cancel : (values now : ℕ) (answer : Option CancelRefusal) (old mid new : State)
      → Observed options begin number old values mid → IsOver options begin values now
      → Step mid (Cancels now number answer) new → Observed options begin number old values new
  observed_cancel values now answer old mid new a over step =
      let few = a.2 in (
        Cancels now number answer ∷ a.0,
        ((refl, over_on options begin values (values_in a.0) now few over), a.1),
        omega (arith, few),
        (mid, a.3, step),
      )

-- ---- from the client's beginning

module _ (server : Endpoint) (sizes : Sizes) (setup : Setup) (options : AskOptions) (now : ℕ) (path : List (List ℕ))
  where
    comes_observes : (number : ℕ) (came : Outcome) (s : State)
        → Led server sizes setup (observes now path (Ok number) ∷ []) s → ObserveComes options now number s came
        → ObserveBecomes server sizes setup path options came
    comes_observes number (Refused why) s led h = absurd h
    comes_observes number (Reported report) s led h =
        let first : List Call = observes now path (Ok number) ∷ [] in
        let seen = h.3 in (
          now,
          number,
          seen.0,
          h.2,
          seen.1,
          h.5,
          led_client server sizes setup (seen.0 ++ first) (takes_report number (shown_report report)) h.0 h.2
              (led_on server sizes setup first seen.0 s h.0 led seen.3) h.4,
        )
    comes_observes number (GaveUp seconds) s led h =
        let first : List Call = observes now path (Ok number) ∷ [] in
        let seen = h.3 in
        (h.0, now, number, seen.0, h.2, seen.1, led_on server sizes setup first seen.0 s h.2 led seen.3)

    pub refused_observes : (answer : Result CallId CallRefusal) (why : CallRefusal) (s : State) → answer ≡ Err why
        → Led server sizes setup (observes now path (number_of answer) ∷ []) s
        → ObserveBecomes server sizes setup path options (Refused why)
    refused_observes answer why s is led = (
      now,
      s,
      subst (λ (a : Result CallId CallRefusal). Led server sizes setup (observes now path (number_of a) ∷ []) s) is led,
    )

pub taken_observes : (Leads : Endpoint → Sizes → Setup → Type 0) (options : AskOptions) (now : ℕ) (path : List (List ℕ))
    (answer : Result CallId CallRefusal) (id : CallId) (s : State) (ended : Result Outcome Stop) → answer ≡ Ok id
    → ((server : Endpoint) (sizes : Sizes) (w : Setup) → Leads server sizes w
    → Led server sizes w (observes now path (number_of answer) ∷ []) s)
    → IfOk ended (ObserveComes options now id.0 s)
    → IfOk ended (λ came. (server : Endpoint) (sizes : Sizes) (w : Setup) → Leads server sizes w
    → ObserveBecomes server sizes w path options came)
taken_observes Leads options now path answer id s (Ok came) is led h = λ server sizes w leads.
    comes_observes server sizes w options now path id.0 came s
    (subst (λ (a : Result CallId CallRefusal). Led server sizes w (observes now path (number_of a) ∷ []) s) is
    (led server sizes w leads)) h
taken_observes Leads options now path answer id s (Err stop) is led h = tt

-- ---- what is written

-- of what is taken, in the form that the options say
pub written_taken : (options : AskOptions) (begin values : ℕ) (now : Moment) (old new : Option (List ℕ))
    (took : Option Report) (form : Form) (is_over : Bool) → Decides options begin values now.0 is_over
    → form ≡ form_of options now → WritesTook form is_over old new took
    → WritesTaken options begin values now old new took
written_taken options begin values now old new None form is_over over is h = h
written_taken options begin values now old new (Some report) form is_over over is h =
    (is_over, over, subst (λ (f : Form). WritesValue f is_over old new report) is h)

-- the values are written, and then how it ended
pub told_observed : (fresh : State) (path : List (List ℕ)) (options : AskOptions)
    (old written new : Option (List ℕ)) (outcome : Outcome) (ended : Result Status Stop)
    → ((server : Endpoint) (sizes : Sizes) (w : Setup) → Led server sizes w [] fresh
    → ObserveBecomes server sizes w path options outcome)
    → ObservesFrom fresh path options old outcome written → IfOk ended (λ s. s ≡ observed_status outcome)
    → OnOk ended (WritesEnd options.json written new outcome)
    → IfOk ended (λ s. (server : Endpoint) (sizes : Sizes) (w : Setup) → Led server sizes w [] fresh
    → Observes old new server sizes w path options s)
told_observed fresh path options old written new outcome (Ok s) becomes from is end = λ server sizes w led.
    (outcome, becomes server sizes w led, is, fresh, led, written, from, end)
told_observed fresh path options old written new outcome (Err stop) becomes from is end = tt
